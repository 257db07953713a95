-- The table of a script's lines says what the script asks of a rank.
use Rattle.std.proofs.Common.{◌≡◌, ◌&&◌, ◌||◌, ℕ, Bool, true, false, not, Option, Some, None, is_some, List, [], ◌∷◌, map, refl, ap, ◌∙◌, arith}
use Rattle.std.specs.Prelude.{◌==◌, if◌then◌else◌, IfSome, unwrap_or, nat_lt, nat_le}
use Rattle.std.proofs.lemmas.List.Elements.{All-head, All-tail}
use Rattle.blacs_grid.specs.Places.{is_member, is_data_rank, is_code_rank}
use Rattle.rank_machine.specs.declared.mark.Mark.{Mark}
use Rattle.rank_machine.specs.declared.slot.Slot.{Slot}
use Rattle.rank_machine.specs.declared.slot.SlotKind.{SlotKind}
use Rattle.rank_machine.specs.declared.slot.SlotKind.TheVariants.{Data, Code, Low, Open, Pivots, Work}
use Rattle.rank_machine.specs.declared.layout.Layout.{Layout}
use Rattle.rank_machine.specs.Setting.{Setting, Job, job_in, some_job, no_layout, layout, is_matrix, factored, group_count}
use Rattle.rank_machine.specs.Effect.{has_ended, is_dropped, is_live_matrix, is_live_list, factoring, is_live_kind, is_live}
use Rattle.script_lines.specs.declared.lines.Line.{Line}
use Rattle.script_lines.specs.Layouts.{IsLayout}
use Rattle.script_lines.specs.Lines.{job_seen, of_slots, setting_on, IsTableOf, AreLaidOut, AreSound}

-- ---- what is read of a list of jobs is what they make, factor and drop
chosen : (here : Bool) (j after : Job) (x : Job) → x ≡ of_slots after → (if here then of_slots j else x) ≡ of_slots (if here then j else after)
chosen true j after x h = refl
chosen false j after x h = h

pub job_in-of_slots : (jobs : List Job) (line : ℕ) → job_in (map of_slots jobs) line ≡ of_slots (job_in jobs line)
job_in-of_slots [] line = refl
job_in-of_slots (j ∷ js) line = chosen (j.line == line) j (job_in js line) (job_in (map of_slots js) line) (job_in-of_slots js line)

dropped-of_slots : (jobs : List Job) (mark : Mark) (what : ℕ) → some_job (map of_slots jobs) (λ j. has_ended mark j.line && (j.drops == what)) ≡ some_job jobs (λ j. has_ended mark j.line && (j.drops == what))
dropped-of_slots [] mark what = refl
dropped-of_slots (j ∷ js) mark what = ap (λ b. (has_ended mark j.line && (j.drops == what)) || b) (dropped-of_slots js mark what)

-- ---- so the setting of a script's table is to a rank that of the script
module _ (s : Setting) (table : List Line) (p : ℕ) (is : IsTableOf s.jobs table) where
  job_on : (line : ℕ) → job_in (map job_seen table) line ≡ of_slots (job_in s.jobs line)
  job_on line = ap (λ js. job_in js line) is ∙ job_in-of_slots s.jobs line

  pub layout_on : (line : ℕ) → layout (setting_on p table) line ≡ layout s line
  layout_on line = ap (λ (j : Job). unwrap_or j.makes no_layout) (job_on line)

  pub is_matrix_on : (line : ℕ) → is_matrix (setting_on p table) line ≡ is_matrix s line
  is_matrix_on line = ap (λ (j : Job). is_some j.makes) (job_on line)

  pub factored_on : (line : ℕ) → factored (setting_on p table) line ≡ factored s line
  factored_on line = ap (λ (j : Job). j.factors) (job_on line)

  pub is_dropped_on : (mark : Mark) (what : ℕ) → is_dropped (setting_on p table) mark what ≡ is_dropped s mark what
  is_dropped_on mark what = ap (λ js. some_job js (λ j. has_ended mark j.line && (j.drops == what))) is ∙ dropped-of_slots s.jobs mark what

  pub is_live_matrix_on : (mark : Mark) (line : ℕ) → is_live_matrix (setting_on p table) mark line ≡ is_live_matrix s mark line
  is_live_matrix_on mark line = λ i. (is_matrix_on line i && has_ended mark line) && not (is_dropped_on mark line i)

  pub is_live_list_on : (mark : Mark) (line : ℕ) → is_live_list (setting_on p table) mark line ≡ is_live_list s mark line
  is_live_list_on mark line = λ i. (nat_lt 0 (factored_on line i) && nat_le line mark.line) && not (is_dropped_on mark line i)

  pub factoring_on : (mark : Mark) → factoring (setting_on p table) mark ≡ factoring s mark
  factoring_on mark = ap (λ line. if mark.ended then 0 else line) (factored_on mark.line)

  is_live_kind_on : (mark : Mark) (rank : ℕ) (slot : Slot) (kind : SlotKind) → is_live_kind (setting_on p table) mark rank slot kind ≡ is_live_kind s mark rank slot kind
  is_live_kind_on mark rank slot Data = λ i. let d = layout_on slot.id i in (is_data_rank d.grid rank && nat_lt slot.group (group_count d)) && is_live_matrix_on mark slot.id i
  is_live_kind_on mark rank slot Code = λ i. let d = layout_on slot.id i in (is_code_rank d.grid rank && nat_lt slot.group (group_count d)) && is_live_matrix_on mark slot.id i
  is_live_kind_on mark rank slot Low = λ i. let d = layout_on slot.id i in (is_code_rank d.grid rank && nat_lt slot.group (group_count d)) && ((nat_lt 0 slot.id && (factoring_on mark i == slot.id)) && nat_le mark.merged slot.group)
  is_live_kind_on mark rank slot Open = λ i. let d = layout_on slot.id i in (is_code_rank d.grid rank && (slot.group == 0)) && ((nat_lt 0 slot.id && (factoring_on mark i == slot.id)) && mark.opened)
  is_live_kind_on mark rank slot Pivots =
      ap (λ line. (is_member (layout (setting_on p table) line).grid rank && (slot.group == 0)) && is_live_list (setting_on p table) mark slot.id) (factored_on slot.id)
      ∙ (λ i. (is_member (layout_on (factored s slot.id) i).grid rank && (slot.group == 0)) && is_live_list_on mark slot.id i)
  is_live_kind_on mark rank slot Work = refl

  pub is_live_on : (mark : Mark) (rank : ℕ) (slot : Slot) → is_live (setting_on p table) mark rank slot ≡ is_live s mark rank slot
  is_live_on mark rank slot = is_live_kind_on mark rank slot slot.kind

-- ---- the layouts of a sound table
one_of_two : (here : Bool) (j after : Job) → IfSome j.makes IsLayout → IfSome after.makes IsLayout → IfSome (if here then j else after).makes IsLayout
one_of_two true j after h k = h
one_of_two false j after h k = k

makes_laid_out : (table : List Line) (line : ℕ) → AreLaidOut table → IfSome (job_in (map job_seen table) line).makes IsLayout
makes_laid_out [] line h = tt
makes_laid_out (x ∷ xs) line h =
    let P : Line → Type 0 = λ y. IfSome y.makes IsLayout in
    one_of_two (x.line == line) (job_seen x) (job_in (map job_seen xs) line) (All-head P x xs h) (makes_laid_out xs line (All-tail P x xs h))

pub makes_sound : (table : List Line) (line : ℕ) → AreSound table → IfSome (job_in (map job_seen table) line).makes IsLayout
makes_sound table line sound = makes_laid_out table line sound.laid_out

-- the layout of a line that makes no matrix
no_layout_sound : IsLayout no_layout
no_layout_sound = record {
  grid = record { some_rows = omega arith; rows = omega arith; some_columns = omega arith; columns = omega arith; code_columns = omega arith; ranks = omega arith };
  desc = record {
    dense = refl;
    some_rows = omega arith;
    rows = omega arith;
    some_columns = omega arith;
    columns = omega arith;
    some_block_rows = omega arith;
    block_rows = omega arith;
    some_block_columns = omega arith;
    block_columns = omega arith;
    row_source = omega arith;
    column_source = omega arith;
    local_rows = refl;
  };
}

sound_or_none : (o : Option Layout) → IfSome o IsLayout → IsLayout (unwrap_or o no_layout)
sound_or_none None h = no_layout_sound
sound_or_none (Some d) h = h

pub layout_sound : (table : List Line) (p : ℕ) (line : ℕ) → AreSound table → IsLayout (layout (setting_on p table) line)
layout_sound table p line sound = sound_or_none (job_in (map job_seen table) line).makes (makes_sound table line sound)
