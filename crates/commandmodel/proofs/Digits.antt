-- A number printed is read back as itself; what is known of a field that is a number. Assumes nothing.
use Prim.Native.Nat.{ℕ, zero, suc, ◌+◌, ◌/◌, ◌%◌, ◌^◌, ◌≤◌, ◌<◌}
use native.Mathlib.Omega.{arith}
use native.Mathlib.Nat.{pow-suc, pow-zero, pow-le-pow_right}
use native.Mathlib.Numerals.{add-one}
use mathlib.Core.Path.{◌≡◌, refl, ap, ◌∙◌}
use mathlib.Core.Bool.{Bool, true, false, cond, ◌&&◌, and-false}
use Rattle.std.specs.Prelude.{Option, None, Some, decimal}
use Rattle.std.proofs.lemmas.Fmt.{decimal_from_appends, length-decimal-le}
use mathlib.Core.List.{List, [], ◌∷◌, ◌++◌}
use lib.ListN.{length, get_or, drop, length-append, drop_of_length-le}
use lib.Seq.{drop-cons}
use lib.Dec.{leb, ltb}
use borrow.Author.Tests.{le-leb, lt-leb, lt-ltb, le-ltb, ltb-true, ltb-false, leb-true}
use Rattle.plan.proofs.Bools.{and_left, and_right}
use Rattle.sheetmodel.specs.Layout.{largest}
use Rattle.commandmodel.specs.Decimal.{most_digits, zero_byte, digit_byte, is_digit, with_digit, with_digits}
use Rattle.commandmodel.specs.Decimal.{up_to_largest, number, digits, printed, ReadBack, NumberLaws}

-- ---- one digit more at the end

abbrev then : Option ℕ → ℕ → Option ℕ
then None b = None
then (Some n) b = Some (with_digit n b)

byte_is_digit : (d : ℕ) → d < 10 → is_digit (digit_byte d) ≡ true
byte_is_digit d h = rw (
  le-leb zero_byte (digit_byte d) (omega arith),
  le-leb (digit_byte d) (zero_byte + 9)
      (omega arith),
)

pub one_more : (n : ℕ) (s : List ℕ) (d : ℕ) → d < 10
    → with_digits n (s ++ (digit_byte d ∷ [])) ≡ then (with_digits n s) (digit_byte d)
unfolding with_digits
one_more n [] d h = rw (byte_is_digit d h)
one_more n (b ∷ bs) d h = go (is_digit b) (one_more (with_digit n b) bs d h)
  where
    go : (t : Bool) → with_digits (with_digit n b) (bs ++ (digit_byte d ∷ [])) ≡ then (with_digits (with_digit n b) bs)
        (digit_byte d)
        → cond t (with_digits (with_digit n b) (bs ++ (digit_byte d ∷ []))) None ≡ then
        (cond t (with_digits (with_digit n b) bs) None) (digit_byte d)
    go true e = e
    go false e = refl

-- ---- what the digits of a number are

module _ (k n : ℕ) where
  one_digit : n < 10 → digits (suc k) n ≡ digit_byte n ∷ []
  unfolding digits
  one_digit h = rw (lt-ltb n 10 h)

  several : 10 ≤ n → digits (suc k) n ≡ digits k (n / 10) ++ (digit_byte (n % 10) ∷ [])
  unfolding digits
  several h = rw (le-ltb n 10 h)

pub record ReadsBack (k n : ℕ) : Type 0 where
  pub value : with_digits 0 (digits k n) ≡ Some n
  pub some_digits : 1 ≤ length (digits k n)
  pub few_digits : length (digits k n) ≤ k

module _ (k n : ℕ) where
  few : n < 10 → ReadsBack (suc k) n
  unfolding with_digits
  few h = record {
    value = rw (one_digit k n h) (one_more 0 [] n h ∙ ap Some (omega arith));
    some_digits = rw (one_digit k n h) (omega arith);
    few_digits = rw (one_digit k n h) (omega arith);
  }

  more : 10 ≤ n → ReadsBack k (n / 10) → ReadsBack (suc k) n
  more h r =
      let last : n % 10 < 10 = omega arith in
      record {
        value = rw (several k n h) (one_more 0 (digits k (n / 10)) (n % 10) last ∙ rw r.value (ap Some (omega arith)));
        some_digits = rw (several k n h, length-append) (omega (arith, r.some_digits));
        few_digits = rw (several k n h, length-append) (omega (arith, r.few_digits));
      }

pub reads_back : (k n : ℕ) → n < 10 ^ suc k → ReadsBack (suc k) n
reads_back zero n below = few zero n (omega (arith, pow-suc 10 0, pow-zero 10))
reads_back (suc k) n below = go (reads_back k (n / 10) (omega (arith, pow-suc 10 (suc k)))) (ltb n 10) refl
  where
    go : ReadsBack (suc k) (n / 10) → (t : Bool) → ltb n 10 ≡ t → ReadsBack (suc (suc k)) n
    go r true e = few (suc k) n (ltb-true n 10 e)
    go r false e = more (suc k) n (ltb-false n 10 e) r

pub read_back : ReadBack
unfolding number printed
read_back n h =
    let r = reads_back 9 n (omega arith) in
    rw (le-leb _ _ r.some_digits, le-leb _ _ r.few_digits, r.value, le-leb n largest h)

-- ---- a number is printed as by itoa

pub printed_decimal : (n : ℕ) → n ≤ largest → printed n ≡ decimal n
unfolding printed
printed_decimal n h =
    let few : length (decimal n) ≤ 10 = length-decimal-le 10 n (omega arith) (omega arith) (omega arith) in
    decimal_from_appends digits (record { one = one_digit; more = several }) most_digits n (omega arith) few

-- ---- reading a field byte after byte

pub digit_bounds : (b : ℕ) → is_digit b ≡ true → (zero_byte ≤ b) × (b ≤ zero_byte + 9)
digit_bounds b e = (
  leb-true zero_byte b (and_left _ (leb b (zero_byte + 9)) e),
  leb-true b (zero_byte + 9)
      (and_right (leb zero_byte b) _ e),
)

module _ (n : ℕ) (s : List ℕ) (i : ℕ) (within : i < length s) where
  pub next_digit : is_digit (get_or s i 0) ≡ true
      → with_digits n (drop i s) ≡ with_digits (with_digit n (get_or s i 0)) (drop (i + 1) s)
  unfolding with_digits
  next_digit e = rw (add-one, drop-cons s i 0 within, e)

  pub no_digit : is_digit (get_or s i 0) ≡ false → with_digits n (drop i s) ≡ None
  unfolding with_digits
  no_digit e = rw (drop-cons s i 0 within, e)

-- ten digits give less than 10,000,000,000
pub digit_below : (n i b : ℕ) → n < 10 ^ i → i < 10 → is_digit b ≡ true
    → (with_digit n b < 10 ^ (i + 1)) × (with_digit n b < 10000000000)
digit_below n i b h ten e =
    let d = digit_bounds b e in
    let p : 10 ^ i ≤ 10 ^ 9 = pow-le-pow_right (omega arith) {i = i} {j = 9} (omega arith) in
    (rw (add-one i, pow-suc 10 i) (omega arith), omega arith)

-- ---- what a field is

module _ (s : List ℕ) where
  pub no_field : length s < 1 → number s ≡ None
  unfolding number
  no_field h = rw (lt-leb 1 (length s) h)

  pub long_field : 10 < length s → number s ≡ None
  unfolding number
  long_field h = rw (lt-leb (length s) 10 h, and-false)

  pub field_value : 1 ≤ length s → length s ≤ 10 → number s ≡ up_to_largest (with_digits 0 s)
  unfolding number
  field_value h k = rw (le-leb 1 (length s) h, le-leb (length s) 10 k)

pub all_digits : (n : ℕ) (s : List ℕ) (i : ℕ) → length s ≤ i → with_digits n (drop i s) ≡ Some n
unfolding with_digits
all_digits n s i h = rw (drop_of_length-le s h)

-- ---- the number against the largest

pub above_largest : (n : ℕ) → largest < n → up_to_largest (Some n) ≡ None
above_largest n h = rw (lt-leb n largest h)

pub within_largest : (n : ℕ) → n ≤ largest → up_to_largest (Some n) ≡ Some n
within_largest n h = rw (le-leb n largest h)

-- ---- what is known of a field that is a number

some_is : {a b : ℕ} → ◌≡◌ {A = Option ℕ} (Some a) (Some b) → a ≡ b
some_is e = cc

up_to : (o : Option ℕ) (n : ℕ) → up_to_largest o ≡ Some n → n ≤ largest
up_to None n e = let z : ◌≡◌ {A = ℕ} 0 1 = cc in absurd (omega arith)
up_to (Some m) n e = go (leb m largest) refl e
  where
    go : (b : Bool) → leb m largest ≡ b → cond b (Some m) None ≡ Some n → n ≤ largest
    go true l f = omega (arith, leb-true m largest l, some_is f)
    go false l f = let z : ◌≡◌ {A = ℕ} 0 1 = cc in absurd (omega arith)

pub number_laws : (field : List ℕ) (n : ℕ) → NumberLaws field n
unfolding number
number_laws field n = record
    { some_digit = λ e. (parts e).0; ten_digits = λ e. (parts e).1; bounded = λ e. (parts e).2 }
  where
    fits : Bool
    fits = leb 1 (length field) && leb (length field) most_digits

    go : (b : Bool) → fits ≡ b → cond b (up_to_largest (with_digits 0 field)) None ≡ Some n
        → (1 ≤ length field) × (length field ≤ most_digits) × (n ≤ largest)
    go true l f = (
      leb-true 1 (length field) (and_left (leb 1 (length field)) (leb (length field) most_digits) l),
      leb-true (length field) most_digits (and_right (leb 1 (length field)) (leb (length field) most_digits) l),
      up_to (with_digits 0 field) n f,
    )
    go false l f = let z : ◌≡◌ {A = ℕ} 0 1 = cc in absurd (omega arith)

    parts : cond fits (up_to_largest (with_digits 0 field)) None ≡ Some n
        → (1 ≤ length field) × (length field ≤ most_digits) × (n ≤ largest)
    parts e = go fits refl e
