-- A factorization with a loss inside: worked journals, 453 records.
use Rattle.std.proofs.Common.{◌<◌, ◌++◌, ◌∷◌, true, false, Some, List, refl, arith, []}
use Rattle.std.proofs.lemmas.List.Elements.{All-from_recursion}
use Rattle.field_core.specs.Sums.{sum_to}
use Rattle.cauchy_code.proofs.Decodes.{decoding-from_columns}
use Rattle.run_data.specs.Matrix.{entry, tabulate}
use Rattle.run_data.specs.Parts.{patched}
use Rattle.run_data.specs.declared.command.Command.TheVariants as c
use Rattle.run_data.specs.Script.{commands_of, Numbered}
use Rattle.rank_machine.specs.declared.slot.Piece.TheVariants as piece
use Rattle.rank_machine.specs.declared.kernel.Cut.TheVariants as cut
use Rattle.rank_machine.specs.declared.kernel.Kernel.TheVariants as k
use Rattle.rank_machine.specs.declared.record.Rec.{Rec}
use Rattle.rank_machine.specs.declared.record.Rec.TheVariants as r
use Rattle.rank_machine.specs.Setting.{Setting}
use Rattle.rank_machine.specs.Tests.{Known}
use Rattle.rank_machine.specs.Legal.{IsLegal}
use Rattle.rank_machine.specs.Losses.{AreDue}
use Rattle.rank_machine.proofs.Agree.{AllDecode}
use Rattle.field_core.proofs.Computing.{quick_inverse, inverse_walk}
use Rattle.local_blas.specs.Kernels.{substituted, solution}
use Rattle.rank_machine.proofs.Terms.{d, legal_by_quick, mark, o, quick_setting, setting_with, v, w}
use Rattle.rank_machine.proofs.Parts.{restored}
use Rattle.rank_machine.proofs.Factored.{factored_carried, factored_opened, factored_rest, files_factored, lines_factored}

abbrev pub script_factored_lost : List Numbered
script_factored_lost = commands_of (lines_factored ++ Some (c.Lose 100 1) ∷ [])

abbrev pub setting_factored_lost : Setting
setting_factored_lost = setting_with script_factored_lost files_factored

abbrev pub journal_factored_lost : List Rec
journal_factored_lost =
    factored_opened ++
    r.Commit (mark 3 false 0 true 0) false ∷
    r.Save 1 (d 2 0) ∷
    r.Lose 1 ∷
    r.Restore ∷
    r.Spawn 1 ∷
    restored 0 1 2 2 0 2 1 ++
    r.Send 2 1 (piece.Whole (o 2 0)) ∷
    r.Recv 1 2 (piece.Whole (w 0 0)) ∷
    r.Kernel 1 (k.Add (piece.Whole (d 2 0)) 1 (piece.Whole (w 0 0)) cut.Whole) ∷
    restored 0 1 2 2 1 2 1 ++
    r.Send 0 1 (piece.Whole (v 3 0)) ∷
    r.Recv 1 0 (piece.Whole (v 3 0)) ∷
    r.Commit (mark 3 false 0 true 0) true ∷
    factored_carried ++
    factored_rest

abbrev pub known_factored_lost : List Known
known_factored_lost = (record { q = 2; lost = (false ∷ true ∷ false ∷ []); which = 1; list = (32768 ∷ 0 ∷ 1 ∷ []) } ∷ [])

decode_factored_lost : AllDecode (quick_setting script_factored_lost files_factored) known_factored_lost
unfolding quick_inverse inverse_walk
decode_factored_lost = (decoding-from_columns 65537 (quick_inverse 65537) 2 1 (false ∷ true ∷ false ∷ []) (32768 ∷ 0 ∷ []) (1 ∷ []) refl refl (All-from_recursion (λ k. k < 65537) (32768 ∷ 0 ∷ 1 ∷ []) (omega arith, (omega arith, (omega arith, tt)))) (refl, tt) (refl, (refl, tt)), tt)

legal_factored_lost : IsLegal setting_factored_lost journal_factored_lost
unfolding entry tabulate patched sum_to substituted solution quick_inverse inverse_walk
legal_factored_lost = legal_by_quick script_factored_lost files_factored known_factored_lost journal_factored_lost decode_factored_lost refl

due_factored_lost : AreDue setting_factored_lost false journal_factored_lost
due_factored_lost = refl
