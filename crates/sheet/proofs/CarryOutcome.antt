-- What carry replies and leaves, by what its code has tested, and that its writes are then in order. Assumes nothing.
use Prim.Native.Nat.{ℕ, ◌+◌, ◌≤◌, ◌<◌}
use mathlib.Core.Path.{◌≡◌, refl, ◌∙◌}
use mathlib.Core.Logic.{inl, inr}
use mathlib.Core.Bool.{true, false}
use mathlib.Core.List.{List, ◌++◌}
use native.Mathlib.Omega.{arith}
use lib.ListN.{length, drop}
use lib.Seq.{paste}
use lib.Dec.{leb}
use borrow.Author.Tests.{leb-true, lt-ltb, le-ltb}
use Rattle.plan.proofs.Bools.{and_left, and_right}
use Rattle.std.specs.declared.result.Result.TheVariants.{Ok, Err}
use Rattle.plan.specs.declared.refusal.Refusal.TheVariants as refusal
use Rattle.sheetmodel.specs.Layout.{greatest_size, header_size, offices, size_from, size_ok, word, records, next_unused, old_least_size, old_first_record}
use Rattle.sheetmodel.specs.Offices.{shares_fit}
use Rattle.sheetmodel.specs.Read.{read_from}
use Rattle.sheetmodel.specs.Rows.{is_some}
use Rattle.sheetmodel.specs.Carry.{carried_header, carried_records, carry, carry_rows, carry_words}
use Rattle.sheetmodel.proofs.ForSheet.{refuses, grants, reads, some_value, links_below}
use Rattle.sheet.specs.Carrying.{Carrying}
use Rattle.sheet.proofs.Sizes.{short_enough}
use Rattle.sheet.proofs.CarryWords.{records_written}

module _ (old shares w : List ℕ) where
  pub wrong_old_size : size_from old_least_size old ≡ false → carry old shares w ≡ record { reply = Err refusal.Size; words = w }
  unfolding carry carry_rows
  wrong_old_size z = refuses w tt (carry_words old shares w) (carry_rows old shares w) refusal.Size (inl (rw z refl, refl))

  module _ (old_size : size_from old_least_size old ≡ true) where
    pub wrong_size : size_ok w ≡ false → carry old shares w ≡ record { reply = Err refusal.Size; words = w }
    unfolding carry carry_rows
    wrong_size z = refuses w tt (carry_words old shares w) (carry_rows old shares w) refusal.Size (inl (rw (old_size, z) refl, refl))

    module _ (size : size_ok w ≡ true) where
      pub old_corrupt : is_some (read_from old_first_record old) ≡ false → carry old shares w ≡ record { reply = Err refusal.Corrupt; words = w }
      unfolding carry carry_rows
      old_corrupt e = refuses w tt (carry_words old shares w) (carry_rows old shares w) refusal.Corrupt (inr (rw (old_size, size) refl, inl (rw e refl, refl)))

      module _ (intact : is_some (read_from old_first_record old) ≡ true) where
        pub too_many_shares : shares_fit (word shares) w ≡ false → carry old shares w ≡ record { reply = Err refusal.Shares; words = w }
        unfolding carry carry_rows
        too_many_shares f =
            refuses w tt (carry_words old shares w) (carry_rows old shares w) refusal.Shares
            (inr (rw (old_size, size) refl, inr (rw intact refl, inl (rw f refl, refl))))

        pub no_fit : shares_fit (word shares) w ≡ true → records w < word old next_unused + 4 → carry old shares w ≡ record { reply = Err refusal.NoFit; words = w }
        unfolding carry carry_rows
        no_fit f few =
            refuses w tt (carry_words old shares w) (carry_rows old shares w) refusal.NoFit
            (inr (rw (old_size, size) refl, inr (rw intact refl, inr (rw f refl, inl (lt-ltb (records w) (word old next_unused + 4) few, refl)))))

        pub granted : shares_fit (word shares) w ≡ true → word old next_unused + 4 ≤ records w → carry old shares w ≡ record { reply = Ok tt; words = carry_words old shares w }
        unfolding carry carry_rows
        granted f room =
            grants w tt (carry_words old shares w) (carry_rows old shares w)
            (rw (old_size, size) refl, (rw intact refl, (rw f refl, (le-ltb (records w) (word old next_unused + 4) room, tt))))

        -- what the writes need
        pub ready : word old next_unused + 4 ≤ records w → Carrying old w
        ready room =
            let s = some_value (read_from old_first_record old) (rw intact refl) in
            let h = (reads old_first_record (omega arith) old s.0).0 s.1 in
            let short = leb-true (length old) greatest_size (and_right (leb old_least_size (length old)) (leb (length old) greatest_size) old_size) in
            record {
              long = leb-true old_least_size (length old) (and_left (leb old_least_size (length old)) (leb (length old) greatest_size) old_size);
              short = short;
              begun = h.begun;
              inside = h.room;
              links = links_below old_first_record old s.0 (omega arith) short h;
              room = room;
              few = short_enough w size;
            }

        -- what the two writes leave: the header v, and then the records
        pub written : shares_fit (word shares) w ≡ true → word old next_unused + 4 ≤ records w → length shares ≡ offices → (v u : List ℕ)
            → v ≡ carried_header old ++ (shares ++ drop header_size w)
            → u ≡ paste v header_size (carried_records old) (length (carried_records old)) → u ≡ (carry old shares w).words
        written f room sixteen v u h e = rw (granted f room) (e ∙ records_written old shares w sixteen (ready room) h)

-- writing changes no size
pub still_ready : (old w v : List ℕ) → length v ≡ length w → Carrying old w → Carrying old v
still_ready old w v same c = record {
  long = c.long;
  short = c.short;
  begun = c.begun;
  inside = c.inside;
  links = c.links;
  room = rw same c.room;
  few = rw same c.few;
}
