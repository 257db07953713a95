-- The text of a journal: one line a record, with its number but for losses.
use Rattle.std.specs.Prelude.{ℕ, suc, Bool, true, false, if◌then◌else◌, List, [], ◌∷◌, ◌++◌, codes, decimal}
use Rattle.run_data.specs.Text.{line_of}
use Rattle.run_data.specs.declared.matrix.Part.{Part}
use Rattle.rank_machine.specs.declared.slot.SlotKind.{SlotKind}
use Rattle.rank_machine.specs.declared.slot.SlotKind.TheVariants.{Data, Code, Low, Open, Pivots, Work}
use Rattle.rank_machine.specs.declared.slot.Slot.{Slot}
use Rattle.rank_machine.specs.declared.slot.Piece.{Piece}
use Rattle.rank_machine.specs.declared.slot.Piece.TheVariants as piece
use Rattle.rank_machine.specs.declared.kernel.Cut.{Cut}
use Rattle.rank_machine.specs.declared.kernel.Cut.TheVariants as cut
use Rattle.rank_machine.specs.declared.kernel.Kernel.{Kernel}
use Rattle.rank_machine.specs.declared.kernel.Kernel.TheVariants as k
use Rattle.rank_machine.specs.declared.record.Rec.{Rec}
use Rattle.rank_machine.specs.declared.record.Rec.TheVariants as r
use Rattle.rank_machine.specs.Losses.{is_numbered}

-- d, c, l, o, v or w
abbrev pub kind_letter : SlotKind → ℕ
kind_letter Data = 100
kind_letter Code = 99
kind_letter Low = 108
kind_letter Open = 111
kind_letter Pivots = 118
kind_letter Work = 119

-- the letter, the id, a dot and the group
abbrev pub slot_text : Slot → List ℕ
slot_text slot = (kind_letter slot.kind ∷ decimal slot.id) ++ (46 ∷ decimal slot.group)

-- [r0:r1,c0:c1]
abbrev pub part_text : Part → List ℕ
part_text at = (((91 ∷ decimal at.r0) ++ (58 ∷ decimal at.r1)) ++ (44 ∷ decimal at.c0)) ++ ((58 ∷ decimal at.c1) ++ (93 ∷ []))

abbrev pub piece_text : Piece → List ℕ
piece_text (piece.Whole slot) = slot_text slot
piece_text (piece.Part slot at) = slot_text slot ++ part_text at

abbrev pub cut_words : Cut → List (List ℕ)
cut_words cut.Whole = codes "whole" ∷ []
cut_words (cut.Upper block) = codes "upper" ∷ decimal block ∷ []
cut_words (cut.Lower block) = codes "lower" ∷ decimal block ∷ []

-- U where the diagonal counts as 1, and N else
abbrev pub diag_text : Bool → List ℕ
diag_text true = codes "U"
diag_text false = codes "N"

-- a kernel's name and its words, the rank between them
abbrev pub kernel_words : ℕ → Kernel → List (List ℕ)
kernel_words rank (k.Zero to rows columns) = codes "zero" ∷ decimal rank ∷ slot_text to ∷ decimal rows ∷ decimal columns ∷ []
kernel_words rank (k.Copy to from) = codes "copy" ∷ decimal rank ∷ piece_text to ∷ piece_text from ∷ []
kernel_words rank (k.Scale to a) = codes "scale" ∷ decimal rank ∷ piece_text to ∷ decimal a ∷ []
kernel_words rank (k.Add to a from cut) = codes "add" ∷ decimal rank ∷ piece_text to ∷ decimal a ∷ piece_text from ∷ cut_words cut
kernel_words rank (k.MulAdd to a left right) = codes "muladd" ∷ decimal rank ∷ piece_text to ∷ decimal a ∷ piece_text left ∷ piece_text right ∷ []
kernel_words rank (k.Lower to block unit) = codes "lower" ∷ decimal rank ∷ piece_text to ∷ piece_text block ∷ diag_text unit ∷ []
kernel_words rank (k.Upper to block unit) = codes "upper" ∷ decimal rank ∷ piece_text to ∷ piece_text block ∷ diag_text unit ∷ []
kernel_words rank (k.Swap to i j) = codes "swap" ∷ decimal rank ∷ slot_text to ∷ decimal i ∷ decimal j ∷ []
kernel_words rank (k.First to from j above) = codes "first" ∷ decimal rank ∷ slot_text to ∷ piece_text from ∷ decimal j ∷ decimal above ∷ []
kernel_words rank (k.Diag to from n) = codes "diag" ∷ decimal rank ∷ slot_text to ∷ piece_text from ∷ decimal n ∷ []
kernel_words rank (k.Least to from) = codes "least" ∷ decimal rank ∷ slot_text to ∷ piece_text from ∷ []
kernel_words rank (k.Elim to j above row) = codes "elim" ∷ decimal rank ∷ slot_text to ∷ decimal j ∷ decimal above ∷ piece_text row ∷ []
kernel_words rank (k.Push to from above) = codes "push" ∷ decimal rank ∷ slot_text to ∷ piece_text from ∷ decimal above ∷ []
kernel_words rank (k.Trans to from) = codes "trans" ∷ decimal rank ∷ slot_text to ∷ piece_text from ∷ []

abbrev pub flag_text : Bool → List ℕ
flag_text true = codes "1"
flag_text false = codes "0"

abbrev pub end_text : Bool → List ℕ
end_text true = codes "end"
end_text false = codes "part"

abbrev pub healed_text : Bool → List ℕ
healed_text true = codes "healed"
healed_text false = codes "plain"

-- the words of a record
abbrev pub record_words : Rec → List (List ℕ)
record_words (r.Feed rank slot) = codes "feed" ∷ decimal rank ∷ slot_text slot ∷ []
record_words (r.Kernel rank kernel) = kernel_words rank kernel
record_words (r.Send from to x) = codes "send" ∷ decimal from ∷ decimal to ∷ piece_text x ∷ []
record_words (r.Recv to from x) = codes "recv" ∷ decimal to ∷ decimal from ∷ piece_text x ∷ []
record_words (r.Save rank slot) = codes "save" ∷ decimal rank ∷ slot_text slot ∷ []
record_words (r.Take rank slot) = codes "take" ∷ decimal rank ∷ slot_text slot ∷ []
record_words r.Restore = codes "restore" ∷ []
record_words (r.Spawn rank) = codes "spawn" ∷ decimal rank ∷ []
record_words (r.Commit mark healed) = codes "commit" ∷ decimal mark.line ∷ end_text mark.ended ∷ decimal mark.closed ∷ flag_text mark.opened ∷ decimal mark.merged ∷ healed_text healed ∷ []
record_words (r.Lose rank) = codes "lose" ∷ decimal rank ∷ []

-- the number before the words, but for losses
abbrev pub numbered_words : ℕ → Rec → List (List ℕ)
numbered_words n x = if is_numbered x then decimal n ∷ record_words x else record_words x

-- the number of the next record
abbrev pub number_after : ℕ → Rec → ℕ
number_after n x = if is_numbered x then suc n else n

-- the lines of records, numbered from n
abbrev pub records_text : ℕ → List Rec → List ℕ
records_text n [] = []
records_text n (x ∷ xs) = line_of (numbered_words n x) ++ records_text (number_after n x) xs

abbrev pub journal_text : List Rec → List ℕ
journal_text journal = records_text 0 journal
