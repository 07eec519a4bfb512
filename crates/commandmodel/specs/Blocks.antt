-- An input that comes in blocks: of the line that has not ended yet the first bytes are kept, and a block is taken while
-- there is room for replies. That the replies do not depend on the blocks is proved in proofs/Blocks.antt.
use Rattle.std.specs.Prelude.{ℕ, suc, ◌-◌, ◌≡◌, cond, List, [], ◌∷◌, ◌++◌, length, take, leb, eqb}
use Rattle.sheetmodel.specs.Calls.{Outcome}
use Rattle.commandmodel.specs.Printed.{end_of_line, longest_reply, answer}
use Rattle.commandmodel.specs.Lines.{replied, session}

-- ---- a block

-- a byte more than a line may have, so that a line that is too long is known by it
abbrev pub most_kept : ℕ
most_kept = 256

-- of a line and bytes more, what is kept
abbrev pub kept : List ℕ → List ℕ → List ℕ
kept line bytes = take most_kept (line ++ bytes)

-- after some bytes: the line that has not ended yet, the words, and the replies to the lines that ended
pub record Fed : Type 0 where
  pub line : List ℕ
  pub words : List ℕ
  pub replies : List ℕ

-- a byte 10 ends the line, which is answered; any other byte is one more of the line
abbrev pub byte_fed : List ℕ → List ℕ → ℕ → Fed
byte_fed line w b =
    cond (eqb b end_of_line)
    (record { line = []; words = (answer line w).words; replies = (answer line w).reply })
    (record { line = kept line (b ∷ []); words = w; replies = [] })

abbrev pub after_replies : List ℕ → Fed → Fed
after_replies before f = record { line = f.line; words = f.words; replies = before ++ f.replies }

-- the bytes of a block one after another
unfoldable pub fed : List ℕ → List ℕ → List ℕ → Fed
fed line w [] = record { line = line; words = w; replies = [] }
fed line w (b ∷ bs) = let f : Fed = byte_fed line w b in after_replies f.replies (fed f.line f.words bs)

-- ---- the end of the input

-- bytes after the last byte 10, if any, are a line
unfoldable pub input_ended : List ℕ → List ℕ → Outcome (List ℕ)
input_ended line w = cond (eqb (length line) 0) (record { reply = []; words = w }) (answer line w)

-- ---- all blocks

unfoldable pub blocks_fed : List ℕ → List ℕ → List (List ℕ) → Outcome (List ℕ)
blocks_fed line w [] = input_ended line w
blocks_fed line w (b ∷ bs) = let f : Fed = fed line w b in replied f.replies (blocks_fed f.line f.words bs)

abbrev pub joined : List (List ℕ) → List ℕ
joined [] = []
joined (b ∷ bs) = b ++ joined bs

-- however the input is cut into blocks: all replies, and the words
abbrev pub BlockLaw : Type 0
BlockLaw = (blocks : List (List ℕ)) (w : List ℕ) → blocks_fed [] w blocks ≡ session (joined blocks) w

-- a line is answered by what is kept of it
abbrev pub KeptLaw : Type 0
KeptLaw = (line w : List ℕ) → answer (kept [] line) w ≡ answer line w

-- ---- room

-- how many bytes of a block are taken: a byte is taken if there is room for the longest reply
unfoldable pub taken : ℕ → List ℕ → List ℕ → List ℕ → ℕ
taken room line w [] = 0
taken room line w (b ∷ bs) =
    let f : Fed = byte_fed line w b in
    cond (leb longest_reply room) (suc (taken (room - length f.replies) f.line f.words bs)) 0
