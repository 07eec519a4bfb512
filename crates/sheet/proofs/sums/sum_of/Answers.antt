-- `sheet::sum_of` meets its contract. Assumes nothing.
use Rattle.std.proofs.Common.{◌≡◌, ℕ, rules, ◌∙◌, sum_by}
use Rattle.sheet.proofs.WordSums.{summed}
use Rattle.sheet.proofs.sums.sum_of.Goals as goal

pub returns : goal.returns
returns c = let s : c.sum.result ≡ sum_by (λ (x : ℕ). x) c.args.words.now = search rules in s ∙ summed c.args.words.now
