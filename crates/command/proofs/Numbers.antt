-- A line's fields, cut off one after another, and the command that they are.
use Rattle.std.proofs.Common.{◌≡◌, ◌∙◌, refl, ap, sym, subst, ℕ, ◌<◌, ◌≤◌, Bool, true, false, cond, eqb, List, [], ◌∷◌}
use Rattle.std.proofs.Common.{◌++◌, length, get_or, append_assoc, append-nil, length-append, arith}
use Rattle.std.specs.Prelude.{Option, None, Some}
use Rattle.std.specs.Bool.{MatchBool}
use Rattle.std.specs.Borrow.{Bor}
use Rattle.std.specs.List.{All, slice_split, IsFirstMatchOrLen}
use Rattle.std.specs.Slice.Iter.{split_steps, split_done, split_rest, split_callee}
use Rattle.std.specs.declared.slice.Split.{Split}
use Rattle.std.proofs.Math.Bool.{and-false}
use Rattle.std.proofs.lemmas.Grind.{common_steps}
use Rattle.std.proofs.lemmas.List.Sorted.{answers_always}
use Rattle.std.proofs.lemmas.List.Splits.{slice_split_none, slice_split_at}
use denote.Param.Members.{Mut, Called}
use borrow.Author.Tests.{le-leb, lt-leb, ne_eqb}
use Rattle.commandmodel.specs.Decimal.{number}
use Rattle.commandmodel.specs.Command.{Command, space, and_then, numbers, forms, by_letter, of_letter, command}

-- ---- what is left to cut

abbrev is_space : ℕ → Bool
is_space b = eqb b space

abbrev pub left : {F : Type 0} → Split ℕ F → List (List ℕ)
left s = cond (split_done s) [] (slice_split is_space (split_rest s))

part : (p : ℕ → Bool) (xs x rest : List ℕ) (done : Bool) → MatchBool done (xs ≡ x) ((y : ℕ) × (xs ≡ x ++ (y ∷ rest)))
    → IsFirstMatchOrLen p xs (length x) → slice_split p xs ≡ x ∷ cond done [] (slice_split p rest)
part p xs x rest true e h =
    ap (slice_split p) e ∙ slice_split_none p x
    (λ k d l. subst (λ ys. p (get_or ys k d) ≡ false) e (h.0 k d (omega arith) l))
part p xs x rest false e h =
    let front : All (λ z. p z ≡ false) x = λ k d l. let a = h.0 k d (omega arith) l in let b = e.1
    in grind (arith, common_steps) in
    let hit : p e.0 ≡ true = let b = e.1 in let a = h.1 (grind (arith, common_steps)) e.0
    in grind (arith, common_steps) in
    ap (slice_split p) e.1 ∙ slice_split_at p x e.0 rest front hit

no_field : {F : Type 0} (s : Split ℕ F) → split_done s ≡ true → left s ≡ []
no_field s e = ap (λ d. cond d [] (slice_split is_space (split_rest s))) e

-- ---- the numbers read, and those that are left

abbrev pub onto : List ℕ → Option (List ℕ) → Option (List ℕ)
onto xs None = None
onto xs (Some ns) = Some (xs ++ ns)

onto_more : (xs : List ℕ) (v : ℕ) (o : Option (List ℕ)) → onto xs (and_then (Some v) o) ≡ onto (xs ++ (v ∷ [])) o
onto_more xs v None = refl
onto_more xs v (Some ns) = ap Some (sym (append_assoc xs (v ∷ []) ns))

either : (t : Bool) (o : Option Command) → cond t o o ≡ o
either true o = refl
either false o = refl

-- no command takes more than 35 numbers
too_many : (b : ℕ) (ns : List ℕ) → 35 < length ns → by_letter forms b ns ≡ None
unfolding forms
too_many b ns m = simp (
  lt-leb (length ns) 35 m,
  and-false,
  ne_eqb 0 (length ns) (λ q. omega arith),
  ne_eqb 1 (length ns) (λ q. omega arith),
  ne_eqb 2 (length ns) (λ q. omega arith),
  either,
)

abbrev pub Reads : {F : Type 0} → List ℕ → ℕ → List ℕ → Split ℕ F → Type 0
Reads line b ns s = command line ≡ of_letter (b ∷ []) (onto ns (numbers (left s)))

-- a call of `next` that takes the state s to t and gives the field x
module _ {F : Type 0} (g : Mut F (Bor ℕ × Unit {0}) Bool) (s t : Split ℕ F) (x : Bor (List ℕ))
    (step : split_steps g s (Some x) t)
    (by_space : (f : F) (a : Bor ℕ × Unit {0}) (r : Bool) (u : F) → Called g f a r u → r ≡ is_space a.0.now)
    (line : List ℕ) where
  cut : left s ≡ x.now ∷ left t
  cut =
      let first = (step.2 is_space (answers_always g (λ a r. r ≡ is_space a.0.now) (split_callee s) by_space)).1 in
      ap (λ d. cond d [] (slice_split is_space (split_rest s))) step.0
      ∙ part is_space (split_rest s) x.now (split_rest t) (split_done t) step.1 first

  -- the first field
  pub first_field : split_rest s ≡ line → length line ≤ 255 → command line ≡ of_letter x.now (numbers (left t))
  unfolding command
  first_field e h =
      let fields : slice_split is_space line ≡ x.now ∷ left t =
      sym (ap (slice_split is_space) e) ∙ sym (ap (λ d. cond d [] (slice_split is_space (split_rest s))) step.0)
      ∙ cut in
      rw (le-leb (length line) 255 h, fields)

  module _ (b : ℕ) (ns : List ℕ) (so_far : Reads line b ns s) where
    pub bad_number : number x.now ≡ None → command line ≡ None
    unfolding numbers
    bad_number e = so_far ∙ rw (cut, e)

    more : (n : ℕ) → number x.now ≡ Some n → Reads line b (ns ++ (n ∷ [])) t
    unfolding numbers
    more n e = so_far ∙ rw (cut, e) (ap (of_letter (b ∷ [])) (onto_more ns n (numbers (left t))))

    pub one_more : (n : ℕ) → number x.now ≡ Some n → (ns' : List ℕ) → ns' ≡ ns ++ (n ∷ []) → Reads line b ns' t
    one_more n e ns' pushed = more n e
        ∙ ap (λ (ms : List ℕ). of_letter (b ∷ []) (onto ms (numbers (left t)))) (sym pushed)

    pub no_room : (n : ℕ) → number x.now ≡ Some n → length ns ≡ 35 → command line ≡ None
    no_room n e full = more n e ∙ go (numbers (left t))
      where
        go : (o : Option (List ℕ)) → of_letter (b ∷ []) (onto (ns ++ (n ∷ [])) o) ≡ None
        go None = refl
        go (Some ms) = too_many b ((ns ++ (n ∷ [])) ++ ms) (simp length-append (omega arith))

pub all_read : {F : Type 0} (s : Split ℕ F) (line : List ℕ) (b : ℕ) (ns : List ℕ) → Reads line b ns s
    → split_done s ≡ true → command line ≡ by_letter forms b ns
unfolding numbers
all_read s line b ns so_far e = so_far ∙ rw (no_field s e) (ap (by_letter forms b) (append-nil ns))

-- ---- the line

pub too_long : (line : List ℕ) → 255 < length line → command line ≡ None
unfolding command
too_long line h = rw (lt-leb (length line) 255 h)

pub no_letter : (x : List ℕ) (o : Option (List ℕ)) → (length x ≡ 1 → ⊥) → of_letter x o ≡ None
no_letter x None h = refl
no_letter [] (Some ns) h = refl
no_letter (b ∷ []) (Some ns) h = absurd (h refl)
no_letter (b ∷ c ∷ bs) (Some ns) h = refl

none_read : (o : Option (List ℕ)) → o ≡ onto [] o
none_read None = refl
none_read (Some ns) = refl

-- no number is read yet
pub one_letter : {F : Type 0} (t : Split ℕ F) (line x : List ℕ) → length x ≡ 1
    → command line ≡ of_letter x (numbers (left t)) → Reads line (get_or x 0 0) [] t
one_letter t line (b ∷ []) h e = e ∙ ap (of_letter (b ∷ [])) (none_read (numbers (left t)))
one_letter t line [] h e = absurd (omega arith)
one_letter t line (b ∷ c ∷ bs) h e = absurd (omega arith)
