-- A decimal number as bytes. Document 01, "Program lots": 1 to 10 digits up to 4,294,967,295.
use Rattle.std.specs.Prelude.{ℕ, zero, suc, ◌+◌, ◌-◌, ◌*◌, ◌/◌, ◌%◌, ◌≤◌, ◌≡◌, Bool, cond, ◌&&◌, List, [], ◌∷◌, ◌++◌}
use Rattle.std.specs.Prelude.{length, leb, ltb, Option, None, Some}
use Rattle.sheetmodel.specs.Layout.{largest}

-- ---- a number read

abbrev pub most_digits : ℕ
most_digits = 10

-- the byte of the digit 0
abbrev pub zero_byte : ℕ
zero_byte = 48

abbrev pub is_digit : ℕ → Bool
is_digit b = leb zero_byte b && leb b (zero_byte + 9)

-- the number n with one digit more, by the digit's byte
abbrev pub with_digit : ℕ → ℕ → ℕ
with_digit n b = 10 * n + (b - zero_byte)

-- the number n with all these digits more; none if a byte is no digit
unfoldable pub with_digits : ℕ → List ℕ → Option ℕ
with_digits n [] = Some n
with_digits n (b ∷ bs) = cond (is_digit b) (with_digits (with_digit n b) bs) None

abbrev pub up_to_largest : Option ℕ → Option ℕ
up_to_largest None = None
up_to_largest (Some n) = cond (leb n largest) (Some n) None

-- the number that a field is; none if it is no number
unfoldable pub number : List ℕ → Option ℕ
number field = cond (leb 1 (length field) && leb (length field) most_digits) (up_to_largest (with_digits 0 field)) None

-- ---- a number printed

abbrev pub digit_byte : ℕ → ℕ
digit_byte d = zero_byte + d

-- the digits of n, which has at most k, without leading zeros
unfoldable pub digits : ℕ → ℕ → List ℕ
digits zero n = []
digits (suc k) n = cond (ltb n 10) (digit_byte n ∷ []) (digits k (n / 10) ++ (digit_byte (n % 10) ∷ []))

unfoldable pub printed : ℕ → List ℕ
printed n = digits most_digits n

-- ---- a number printed is read back as itself: proved in proofs/Digits.antt

abbrev pub ReadBack : Type 0
ReadBack = (n : ℕ) → n ≤ largest → number (printed n) ≡ Some n

-- ---- a field that is a number has 1 to 10 digits, and is no number that a word cannot hold: proved in proofs/Digits.antt

pub record NumberLaws (field : List ℕ) (n : ℕ) : Type 0 where
  pub some_digit : number field ≡ Some n → 1 ≤ length field
  pub ten_digits : number field ≡ Some n → length field ≤ most_digits
  pub bounded : number field ≡ Some n → n ≤ largest
