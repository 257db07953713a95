-- The numbers of the answers, and their texts on err.
use Rattle.std.specs.Prelude.{ℕ, List, [], ◌∷◌, ◌++◌, codes, decimal}
use Rattle.std.specs.Fmt.{signed_decimal}
use Rattle.world_heal.specs.declared.healing.Drove.{Drove}
use Rattle.world_heal.specs.declared.healing.Drove.TheVariants as d
use Rattle.scalapack_top.specs.declared.status.Status.{Status}
use Rattle.scalapack_top.specs.declared.status.Status.TheVariants as status

abbrev pub exit_number : Status → ℕ
exit_number status.Done = 0
exit_number (status.Refused file line code) = 1
exit_number status.Usage = 2
exit_number (status.ReadFault file) = 3
exit_number status.WriteFault = 4
exit_number status.NoMemory = 5
exit_number (status.Beyond grid row) = 6
exit_number (status.NoSpare rank) = 7

-- the text on err, with a line feed at its end where there is one
abbrev pub error_text : Status → List ℕ
error_text status.Done = []
error_text (status.Refused file line code) = codes "refused file " ++ decimal file ++ codes " line " ++ decimal line ++ codes " code " ++ signed_decimal code ++ 10 ∷ []
error_text status.Usage = codes "usage: scalapack_cli SCRIPT [--journal FILE] or SCRIPT --serial or --generate N" ++ 10 ∷ []
error_text (status.ReadFault file) = codes "read fault file " ++ decimal file ++ 10 ∷ []
error_text status.WriteFault = []
error_text status.NoMemory = codes "no memory" ++ 10 ∷ []
error_text (status.Beyond grid row) = codes "beyond grid " ++ decimal grid ++ codes " row " ++ decimal row ++ 10 ∷ []
error_text (status.NoSpare rank) = codes "no spare rank " ++ decimal rank ++ 10 ∷ []

-- how a run on the ranks ended, as an answer
abbrev pub answer_of : Drove → Status
answer_of d.Done = status.Done
answer_of (d.Beyond grid row) = status.Beyond grid row
answer_of (d.NoSpare rank) = status.NoSpare rank
