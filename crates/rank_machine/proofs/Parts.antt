-- Parts of worked journals: what several of them do alike, each named by what it comes to.
use Rattle.std.proofs.Common.{◌+◌, ◌∷◌, ◌++◌, ℕ, true, false, List, map, []}
use Rattle.rank_machine.specs.declared.slot.Slot.{Slot}
use Rattle.rank_machine.specs.declared.slot.Piece.TheVariants as piece
use Rattle.rank_machine.specs.declared.kernel.Cut.TheVariants as cut
use Rattle.rank_machine.specs.declared.kernel.Kernel.{Kernel}
use Rattle.rank_machine.specs.declared.kernel.Kernel.TheVariants as k
use Rattle.rank_machine.specs.declared.record.Rec.{Rec}
use Rattle.rank_machine.specs.declared.record.Rec.TheVariants as r
use Rattle.rank_machine.proofs.Terms.{d, o, v, w, co, lo, rect}

-- some ranks are fed, save, take or run the same
abbrev pub fed : List ℕ → Slot → List Rec
fed ranks slot = map (λ rank. r.Feed rank slot) ranks

abbrev pub saved : List ℕ → Slot → List Rec
saved ranks slot = map (λ rank. r.Save rank slot) ranks

abbrev pub taken : List ℕ → Slot → List Rec
taken ranks slot = map (λ rank. r.Take rank slot) ranks

abbrev pub run_on : List ℕ → Kernel → List Rec
run_on ranks kernel = map (λ rank. r.Kernel rank kernel) ranks

-- the strips of a group on two data ranks, from rank a on, are summed by the code rank after them
abbrev pub coded : ℕ → ℕ → ℕ → ℕ → ℕ → List Rec
coded a id group rows columns =
    r.Send a (a + 2) (piece.Whole (d id group)) ∷
    r.Send (a + 1) (a + 2) (piece.Whole (d id group)) ∷
    r.Kernel (a + 2) (k.Zero (co id group) rows columns) ∷
    r.Recv (a + 2) a (piece.Whole (w 0 0)) ∷
    r.Kernel (a + 2) (k.Add (piece.Whole (co id group)) 32769 (piece.Whole (w 0 0)) cut.Whole) ∷
    r.Recv (a + 2) (a + 1) (piece.Whole (w 0 0)) ∷
    r.Kernel (a + 2) (k.Add (piece.Whole (co id group)) 1 (piece.Whole (w 0 0)) cut.Whole) ∷
    []

-- the strip of one data rank goes to the code rank after it
abbrev pub coded_by_one : ℕ → ℕ → ℕ → ℕ → ℕ → List Rec
coded_by_one a id group rows columns =
    r.Send a (a + 1) (piece.Whole (d id group)) ∷
    r.Kernel (a + 1) (k.Zero (co id group) rows columns) ∷
    r.Recv (a + 1) a (piece.Whole (w 0 0)) ∷
    r.Kernel (a + 1) (k.Add (piece.Whole (co id group)) 1 (piece.Whole (w 0 0)) cut.Whole) ∷
    []

-- the strips of a group on three data ranks, from rank a on, are summed by the code rank after them
abbrev pub coded_by_three : ℕ → ℕ → ℕ → ℕ → ℕ → List Rec
coded_by_three a id group rows columns =
    r.Send a (a + 3) (piece.Whole (d id group)) ∷
    r.Send (a + 1) (a + 3) (piece.Whole (d id group)) ∷
    r.Send (a + 2) (a + 3) (piece.Whole (d id group)) ∷
    r.Kernel (a + 3) (k.Zero (co id group) rows columns) ∷
    r.Recv (a + 3) a (piece.Whole (w 0 0)) ∷
    r.Kernel (a + 3) (k.Add (piece.Whole (co id group)) 21846 (piece.Whole (w 0 0)) cut.Whole) ∷
    r.Recv (a + 3) (a + 1) (piece.Whole (w 0 0)) ∷
    r.Kernel (a + 3) (k.Add (piece.Whole (co id group)) 32769 (piece.Whole (w 0 0)) cut.Whole) ∷
    r.Recv (a + 3) (a + 2) (piece.Whole (w 0 0)) ∷
    r.Kernel (a + 3) (k.Add (piece.Whole (co id group)) 1 (piece.Whole (w 0 0)) cut.Whole) ∷
    []

-- a rank learns the lesser of its own row number and that of another
abbrev pub least : ℕ → ℕ → List Rec
least from to =
    r.Send from to (piece.Whole (w 0 0)) ∷
    r.Recv to from (piece.Whole (w 1 0)) ∷
    r.Kernel to (k.Least (w 0 0) (piece.Whole (w 1 0))) ∷
    []

-- a rank looks for its first row with a pivot, and its strip leaves the code
abbrev pub looked : ℕ → ℕ → ℕ → ℕ → ℕ → ℕ → List Rec
looked a code id group above weight =
    r.Send a code (piece.Whole (d id group)) ∷
    r.Kernel a (k.First (w 0 0) (piece.Whole (d id group)) 0 above) ∷
    r.Recv code a (piece.Whole (w 0 0)) ∷
    r.Kernel code (k.Add (piece.Whole (co id group)) weight (piece.Whole (w 0 0)) cut.Whole) ∷
    []

-- the panel of the first data rank of a process row goes to its code rank, and the list along the row
abbrev pub handed_on : ℕ → ℕ → ℕ → ℕ → ℕ → List Rec
handed_on a id group list weight =
    r.Send a (a + 2) (piece.Whole (d id group)) ∷
    r.Send a (a + 1) (piece.Whole (v list 0)) ∷
    r.Recv (a + 1) a (piece.Whole (v list 0)) ∷
    r.Send (a + 1) (a + 2) (piece.Whole (v list 0)) ∷
    r.Recv (a + 2) a (piece.Whole (o id 0)) ∷
    r.Kernel (a + 2) (k.Scale (piece.Whole (o id 0)) weight) ∷
    r.Recv (a + 2) (a + 1) (piece.Whole (v list 0)) ∷
    []

-- a lost strip is made of that of the other data rank and of the code
abbrev pub restored : ℕ → ℕ → ℕ → ℕ → ℕ → ℕ → ℕ → List Rec
restored from to code id group rows columns =
    r.Send from to (piece.Whole (d id group)) ∷
    r.Kernel to (k.Zero (d id group) rows columns) ∷
    r.Recv to from (piece.Whole (w 0 0)) ∷
    r.Kernel to (k.Add (piece.Whole (d id group)) 32768 (piece.Whole (w 0 0)) cut.Whole) ∷
    r.Send code to (piece.Whole (co id group)) ∷
    r.Recv to code (piece.Whole (w 0 0)) ∷
    r.Kernel to (k.Add (piece.Whole (d id group)) 1 (piece.Whole (w 0 0)) cut.Whole) ∷
    r.Send code to (piece.Whole (lo id group)) ∷
    r.Recv to code (piece.Whole (w 0 0)) ∷
    r.Kernel to (k.Add (piece.Whole (d id group)) 1 (piece.Whole (w 0 0)) cut.Whole) ∷
    []

-- what is above the diagonal of an eliminated panel enters the code, and what is below it the code of the multipliers
abbrev pub opened_to : ℕ → ℕ → ℕ → ℕ → List Rec
opened_to code id group block =
    r.Kernel code (k.Add (piece.Whole (co id group)) 1 (piece.Whole (o id 0)) (cut.Upper block)) ∷
    r.Kernel code (k.Add (piece.Whole (lo id group)) 1 (piece.Whole (o id 0)) (cut.Lower block)) ∷
    []

-- what rank a sent goes through rank b to rank c
abbrev pub passed_on : ℕ → ℕ → ℕ → List Rec
passed_on a b c =
    r.Recv b a (piece.Whole (w 0 0)) ∷
    r.Send b c (piece.Whole (w 0 0)) ∷
    r.Recv c b (piece.Whole (w 0 0)) ∷
    []

-- a strip goes from rank a through rank b to rank c
abbrev pub through : ℕ → ℕ → ℕ → Slot → List Rec
through a b c slot =
    r.Send a b (piece.Whole slot) ∷
    passed_on a b c

-- a data rank and its code rank save their strips of a group
abbrev pub saved_strips : ℕ → ℕ → ℕ → ℕ → List Rec
saved_strips rank code id group =
    r.Save rank (d id group) ∷
    r.Save code (co id group) ∷
    r.Save code (lo id group) ∷
    []

-- two data ranks from a on and the code rank after them save their strips of a group
abbrev pub saved_row : ℕ → ℕ → ℕ → List Rec
saved_row a id group =
    r.Save a (d id group) ∷
    saved_strips (a + 1) (a + 2) id group

-- the first row of a strip is solved with the diagonal block of a panel, and goes to another rank
abbrev pub solved_row : ℕ → ℕ → Slot → Slot → List Rec
solved_row a to slot panel =
    r.Kernel a (k.Lower (piece.Part slot (rect 0 1 0 1)) (piece.Part panel (rect 0 1 0 1)) true) ∷
    r.Kernel a (k.Copy (piece.Whole (w 1 0)) (piece.Part slot (rect 0 1 0 1))) ∷
    r.Send a to (piece.Whole (w 1 0)) ∷
    []

-- the first row of a strip is solved with a diagonal block, and goes to another rank by a slot made anew
abbrev pub solved_lower : ℕ → ℕ → Slot → Slot → List Rec
solved_lower a to slot panel =
    r.Kernel a (k.Lower (piece.Part slot (rect 0 1 0 1)) (piece.Part panel (rect 0 1 0 1)) true) ∷
    r.Kernel a (k.Zero (w 1 0) 1 1) ∷
    r.Kernel a (k.Copy (piece.Whole (w 1 0)) (piece.Part slot (rect 0 1 0 1))) ∷
    r.Send a to (piece.Whole (w 1 0)) ∷
    []

-- the first row of a strip is solved with an upper triangle, and goes to another rank by a slot made anew
abbrev pub solved_upper : ℕ → ℕ → Slot → Slot → List Rec
solved_upper a to slot panel =
    r.Kernel a (k.Upper (piece.Part slot (rect 0 1 0 1)) (piece.Part panel (rect 0 1 0 1)) false) ∷
    r.Kernel a (k.Zero (w 1 0) 1 1) ∷
    r.Kernel a (k.Copy (piece.Whole (w 1 0)) (piece.Part slot (rect 0 1 0 1))) ∷
    r.Send a to (piece.Whole (w 1 0)) ∷
    []

-- on a grid of two process rows and one data column each rank saves its strip of a group
abbrev pub saved_column : ℕ → ℕ → List Rec
saved_column id group =
    r.Save 0 (d id group) ∷
    r.Save 1 (co id group) ∷
    r.Save 2 (d id group) ∷
    r.Save 3 (co id group) ∷
    []

-- a solved row comes, and its product with a row of a panel leaves that row of a strip
abbrev pub row_subtracted : ℕ → ℕ → ℕ → Slot → Slot → List Rec
row_subtracted a from row slot panel =
    r.Recv a from (piece.Whole (w 1 0)) ∷
    r.Kernel a (k.MulAdd (piece.Part slot (rect row (row + 1) 0 1)) 65536 (piece.Part panel (rect row (row + 1) 0 1)) (piece.Whole (w 1 0))) ∷
    []

-- a row of the right factor comes, and its product with a strip of the left one is added
abbrev pub multiplied_in : ℕ → ℕ → ℕ → ℕ → Slot → Slot → List Rec
multiplied_in a from factor rows slot left =
    r.Recv a from (piece.Whole (w 1 0)) ∷
    r.Kernel a (k.MulAdd (piece.Whole slot) factor (piece.Part left (rect 0 rows 0 1)) (piece.Whole (w 1 0))) ∷
    []

-- a panel and a solved row come, and their product leaves the first row of a strip
abbrev pub subtracted : ℕ → ℕ → ℕ → Slot → List Rec
subtracted a panel row slot =
    r.Recv a panel (piece.Whole (w 0 0)) ∷
    row_subtracted a row 0 slot (w 0 0)

-- two ranks, some ranks apart, agree on the first row with a pivot, and their strips leave the code
abbrev pub searched : ℕ → ℕ → ℕ → ℕ → ℕ → ℕ → ℕ → List Rec
searched step a code id group above weight =
    looked a code id group above weight ++
    r.Send (a + step) (code + step) (piece.Whole (d id group)) ∷
    r.Kernel (a + step) (k.First (w 0 0) (piece.Whole (d id group)) 0 above) ∷
    least (a + step) a ++
    r.Send a (a + step) (piece.Whole (w 0 0)) ∷
    r.Recv (a + step) a (piece.Whole (w 0 0)) ∷
    r.Recv (code + step) (a + step) (piece.Whole (w 0 0)) ∷
    r.Kernel (code + step) (k.Add (piece.Whole (co id group)) weight (piece.Whole (w 0 0)) cut.Whole) ∷
    r.Take a (w 0 0) ∷
    []

-- two code ranks exchange their first rows
abbrev pub exchanged_codes : ℕ → ℕ → ℕ → ℕ → List Rec
exchanged_codes a b id group =
    r.Recv b a (piece.Whole (w 2 0)) ∷
    r.Send b a (piece.Part (co id group) (rect 0 1 0 1)) ∷
    r.Recv a b (piece.Part (co id group) (rect 0 1 0 1)) ∷
    r.Send a b (piece.Part (lo id group) (rect 0 1 0 1)) ∷
    r.Kernel b (k.Copy (piece.Part (co id group) (rect 0 1 0 1)) (piece.Whole (w 2 0))) ∷
    r.Recv b a (piece.Whole (w 2 0)) ∷
    r.Send b a (piece.Part (lo id group) (rect 0 1 0 1)) ∷
    r.Recv a b (piece.Part (lo id group) (rect 0 1 0 1)) ∷
    []

-- the first row of a strip goes to another rank, which takes it in and sends its own back
abbrev pub swapped : ℕ → ℕ → Slot → List Rec
swapped a b slot =
    r.Send a b (piece.Part slot (rect 0 1 0 1)) ∷
    r.Recv b a (piece.Whole (w 2 0)) ∷
    r.Send b a (piece.Part slot (rect 0 1 0 1)) ∷
    r.Kernel b (k.Copy (piece.Part slot (rect 0 1 0 1)) (piece.Whole (w 2 0))) ∷
    []

-- the panel and the list of a data rank go to the code rank after it
abbrev pub handed_over : ℕ → ℕ → ℕ → ℕ → ℕ → List Rec
handed_over a id group list weight =
    r.Send a (a + 1) (piece.Whole (d id group)) ∷
    r.Recv (a + 1) a (piece.Whole (o id 0)) ∷
    r.Send a (a + 1) (piece.Whole (v list 0)) ∷
    r.Kernel (a + 1) (k.Scale (piece.Whole (o id 0)) weight) ∷
    r.Recv (a + 1) a (piece.Whole (v list 0)) ∷
    []

-- the panel of the second data rank of a process row goes to its code rank, and the list along the row and back to the first one
abbrev pub handed_back : ℕ → ℕ → ℕ → ℕ → ℕ → List Rec
handed_back a id group list weight =
    handed_over (a + 1) id group list weight ++
    r.Send (a + 2) a (piece.Whole (v list 0)) ∷
    r.Recv a (a + 2) (piece.Whole (v list 0)) ∷
    []
