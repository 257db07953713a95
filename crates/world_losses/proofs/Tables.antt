-- What a table of lines says of what is live on a grid is what the setting says.
use Rattle.std.proofs.Common.{◌≡◌, ℕ, ◌&&◌, ◌||◌, ◌==◌, Bool, List, [], ◌∷◌, map, refl, ◌∙◌, ap}
use Rattle.rank_machine.specs.declared.mark.Mark.{Mark}
use Rattle.rank_machine.specs.Setting.{Job, Setting, some_job}
use Rattle.rank_machine.specs.State.{State}
use Rattle.rank_machine.specs.Losses.{holds_live}
use Rattle.script_lines.specs.declared.lines.Line.{Line}
use Rattle.script_lines.specs.Lines.{job_seen, of_slots, setting_on, IsTableOf}
use Rattle.script_lines.proofs.TableLaws.{layout_on, is_live_matrix_on, is_live_list_on}
use Rattle.world_losses.specs.Judged.{lies_on}

some_of_slots : (jobs : List Job) (f : Job → Bool) → some_job (map of_slots jobs) f ≡ some_job jobs (λ j. f (of_slots j))
some_of_slots [] f = refl
some_of_slots (j ∷ js) f = ap (λ b. f (of_slots j) || b) (some_of_slots js f)

lies_same : (s : Setting) (table : List Line) (is : IsTableOf s.jobs table) (mark : Mark) (j : Job) (number : ℕ) → lies_on (setting_on 0 table) mark j number ≡ lies_on s mark j number
lies_same s table is mark j number =
    λ i. (is_live_matrix_on s table 0 is mark j.line i && ((layout_on s table 0 is j.line i).desc.ctxt == number))
    || (is_live_list_on s table 0 is mark j.line i && ((layout_on s table 0 is j.factors i).desc.ctxt == number))

pub held_live : (s : Setting) (st : State) (table : List Line) (mark : Mark) (number : ℕ) → IsTableOf s.jobs table → mark ≡ st.mark
    → some_job (map job_seen table) (λ j. lies_on (setting_on 0 table) mark j number) ≡ holds_live s st number
held_live s st table mark number is same =
    ap (λ js. some_job js (λ j. lies_on (setting_on 0 table) mark j number)) is
    ∙ some_of_slots s.jobs (λ j. lies_on (setting_on 0 table) mark j number)
    ∙ (λ i. some_job s.jobs (λ j. lies_same s table is mark j number i))
    ∙ ap (λ m. some_job s.jobs (λ j. lies_on s m j number)) same
