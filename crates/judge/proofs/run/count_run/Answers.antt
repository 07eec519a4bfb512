-- A part, and the end.
use Rattle.std.proofs.Common.{ap, sym, ◌∙◌, arith}
use Rattle.std.proofs.lemmas.List.{nil_from_length}
use Rattle.std.specs.Slice.Iter.{chunks_rest}
use Rattle.plan.specs.Counts.{units, counts_after}
use Rattle.plan.proofs.Promise.{counting}
use Rattle.judge.proofs.Runs.{part_counted}
use Rattle.judge.proofs.run.count_run.Goals as goal

pub add-c-requires : goal.add-c-requires
add-c-requires c =
    let i = c.loop-part.invariant in
    let s = c.in-Some.ensures.steps in
    let u = ap units c.count_part.ensures ∙ counting.length_of c.in-Some.part.now in
    omega (arith, i.few, i.size, s.1.1, u)

pub loop-part-preserved : goal.loop-part-preserved
loop-part-preserved c =
    let l = c.loop-part in
    let i = l.invariant in
    let s = c.in-Some.ensures.steps in
    let p = part_counted l.c (chunks_rest l.part-iterator) c.in-Some.part.now
    (chunks_rest c.next.new.self) _ c.count_part.result c.add-c.result i.few i.counted
    s.1.0 c.count_part.ensures c.add-c.ensures in
    record {
      can_next = omega (arith, i.size, s.0);
      is_finite = tt;
      size = s.0
          ∙ i.size;
      few = p.few;
      counted = p.counted;
    }

pub returns : goal.returns
returns c =
    let l = c.loop-part in
    let none = nil_from_length (chunks_rest l.part-iterator) c.in-None.ensures.steps.1.0 in
    sym (counting.after_none l.c) ∙ ap (counts_after l.c) (sym none) ∙ l.invariant.counted
