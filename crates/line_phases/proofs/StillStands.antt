-- What an earlier line made, and no line has dropped, goes on to stand for what its name means.
use Rattle.std.proofs.Common.{◌≡◌, ◌≢◌, ℕ, ◌+◌, ◌<◌, ◌≤◌, ◌==◌, ◌&&◌, nat_lt, not, true, false, List, Option, Some, None, refl, sym, ap, subst, ◌∙◌, ⊎_elim, arith, IsTrue}
use Rattle.std.specs.Prelude.{if◌then◌else◌, nat_le}
use Rattle.std.specs.Str.{bytes_eq}
use Rattle.std.proofs.lemmas.Bool.{false≢true, true≢false, cases_eq, lt-ltb, le-leb, leb-true, eqb-true, or_cases, and_parts, and_from, not-true, false_from_ne_true}
use Rattle.std.proofs.lemmas.Slice.Eq.{bytes_eq-Decides}
use Rattle.run_data.specs.declared.command.Command.{Command}
use Rattle.run_data.specs.declared.command.Command.TheVariants as c
use Rattle.run_data.specs.Script.{Numbered, commands_of, command_at, name_made, maker, is_grid}
use Rattle.blacs_grid.specs.declared.Grid.{Grid}
use Rattle.blacs_grid.specs.Places.{size, is_member, is_data_rank}
use Rattle.rank_machine.specs.declared.mark.Mark.{Mark}
use Rattle.rank_machine.specs.declared.slot.Slot.{Slot}
use Rattle.rank_machine.specs.declared.slot.SlotKind.TheVariants.{Data, Pivots}
use Rattle.rank_machine.specs.Setting.{Setting, Job, layout, is_matrix, factored, group_count}
use Rattle.rank_machine.specs.Scripts.{Matrices, grids_from, setting_of}
use Rattle.rank_machine.specs.State.{State}
use Rattle.rank_machine.specs.Effect.{numbers_of, has_ended, is_dropped, is_live_matrix, is_live_list, is_live}
use Rattle.rank_machine.specs.CodeLaw.{slot_at}
use Rattle.rank_machine.specs.Marks.{follows}
use Rattle.serial_model.specs.Serial.{Value, rows, Values, with_value}
use Rattle.script_lines.proofs.JobAt.{job_for, is_matrix_command, matrix_line-is}
use Rattle.script_bounds.specs.Accepted.{KeepsRules}
use Rattle.script_bounds.specs.Bounds.{is_line, still_means}
use Rattle.script_bounds.proofs.Sized.{made_name_free}
use Rattle.script_recovery.proofs.StillThere.{still-lives}
use Rattle.run_laws.specs.LastCommit.{IsScripted}
use Rattle.run_laws.proofs.Scripts.{script_rising}
use Rattle.run_laws.proofs.Marks.{matrix_was_live, list_was_live}
use Rattle.whole_run.specs.Between.{StandsForMatrix, StandsForList, Names, StandsFor}
use Rattle.line_phases.proofs.NextJob.{job-is, ended-by, dropped-here}

-- ---- a value of another name
pub value-same : (values : Values) (name : List ℕ) (value : Option Value) (other : List ℕ) → (name ≡ other → ⊥) → with_value values name value other ≡ values other
value-same values name value other ne = ap (λ b. if b then value else values other) (false_from_ne_true (bytes_eq name other) (λ t. ne ((bytes_eq-Decides name other).0 t)))

pub value-here : (values : Values) (name : List ℕ) (value : Option Value) (other : List ℕ) → name ≡ other → with_value values name value other ≡ value
value-here values name value other e = ap (λ b. if b then value else values other) ((bytes_eq-Decides name other).1 e)

-- ---- what is held of a live matrix or list, and its value, are as they were
-- the live slots of a line hold under a mark what they held
abbrev pub KeepsTiles : Setting → Mark → State → State → ℕ → Type 0
KeepsTiles s mark old new at = (rank : ℕ) (slot : Slot) → slot.id ≡ at → is_live s mark rank slot ≡ true → new.tiles rank slot ≡ old.tiles rank slot

pub matrix-stays : (s : Setting) (mark : Mark) (old new : State) (at : ℕ) (name : List ℕ) (values values' : Values) → is_live_matrix s mark at ≡ true → KeepsTiles s mark old new at → values' name ≡ values name → StandsForMatrix s old at name values
    → StandsForMatrix s new at name values'
matrix-stays s mark old new at name values values' live same value h =
    let d = layout s at in
    record {
      matrix = h.matrix;
      means = value ∙ h.means;
      shaped = h.shaped;
      shape = h.shape;
      held = λ rank group strip.
          same rank (slot_at Data at group) refl
          (and_from (is_data_rank d.grid rank && nat_lt group (group_count d)) (is_live_matrix s mark at)
          (and_from (is_data_rank d.grid rank) (nat_lt group (group_count d)) strip.data_rank (lt-ltb group (group_count d) strip.group_in)) live)
          ∙ h.held rank group strip;
    }

first_member : (g : Grid) → 0 < size g → is_member g g.first ≡ true
first_member g some = and_from (nat_le g.first g.first) (nat_lt g.first (g.first + size g)) (le-leb g.first g.first (omega arith)) (lt-ltb g.first (g.first + size g) (omega (arith, some)))

pub list-stays : (s : Setting) (mark : Mark) (old new : State) (at : ℕ) (name : List ℕ) (values values' : Values) → IsScripted s → is_live_list s mark at ≡ true → KeepsTiles s mark old new at → values' name ≡ values name
    → StandsForList s old at name values → StandsForList s new at name values'
list-stays s mark old new at name values values' scripted live same value h =
    let g = (layout s (factored s at)).grid in
    let there : is_live s mark g.first (slot_at Pivots at 0) ≡ true =
    and_from (is_member g g.first && (0 == 0)) (is_live_list s mark at) (and_from (is_member g g.first) (0 == 0) (first_member g (scripted.some_ranks (factored s at))) refl) live in
    value ∙ (h ∙ ap (λ t. Some (rows (numbers_of t))) (sym (same g.first (slot_at Pivots at 0) refl there)))

-- ---- what is live under a mark, and not of the mark's line, is what its name means as seen from that line
is_there : (o : Option ℕ) (at : ℕ) → is_line o at ≡ true → o ≡ Some at
is_there None at t = absurd (false≢true t)
is_there (Some k) at t = ap (λ (l : ℕ). Some l) (eqb-true k at t)

not_grid : (x : Command) → is_matrix_command (Some x) ≡ true → is_grid x ≡ false
not_grid (c.Grid name p q f) t = absurd (false≢true t)
not_grid x t = refl

factors_none : (ns : List Numbered) (grids : List Grid) (line : ℕ) (x : Command) → nat_lt 0 (job_for ns grids line (Some x)).factors ≡ true → is_grid x ≡ false
factors_none ns grids line (c.Grid name p q f) t = absurd (false≢true t)
factors_none ns grids line x t = refl

module _ (script : List (Option Command)) (files : Matrices) (kept : KeepsRules script) (mark : Mark) (at : ℕ) (name : List ℕ) where
  means : (x : Command) → command_at (commands_of script) at ≡ Some x → name_made x ≡ Some name → is_grid x ≡ false → is_dropped (setting_of script files) mark at ≡ false → at ≤ mark.line → at ≢ mark.line
      → maker (commands_of script) mark.line name ≡ Some at
  means x there makes no_grid undropped le other =
      ⊎_elim
      (λ (here : (at == mark.line) ≡ true). absurd (other (eqb-true at mark.line here)))
      (λ (still : still_means (commands_of script) mark.line (name_made x) at ≡ true).
      is_there (maker (commands_of script) mark.line name) at (ap (λ o. still_means (commands_of script) mark.line o at) (sym makes) ∙ still))
      (or_cases (at == mark.line) (still_means (commands_of script) mark.line (name_made x) at) (still-lives script files kept mark at name x there makes no_grid undropped le))

  pub matrix-means : is_live_matrix (setting_of script files) mark at ≡ true → Names (commands_of script) at name → at ≢ mark.line → maker (commands_of script) mark.line name ≡ Some at
  matrix-means live named other =
      let s : Setting = setting_of script files in
      let z = and_parts (is_matrix s at && has_ended mark at) (not (is_dropped s mark at)) live in
      let y = and_parts (is_matrix s at) (has_ended mark at) z.0 in
      means named.0 named.1 named.2 (not_grid named.0 (ap is_matrix_command (sym named.1) ∙ matrix_line-is script at y.0)) (not-true (is_dropped s mark at) z.1) (ended-by mark at y.1) other

  pub list-means : is_live_list (setting_of script files) mark at ≡ true → Names (commands_of script) at name → at ≢ mark.line → maker (commands_of script) mark.line name ≡ Some at
  list-means live named other =
      let s : Setting = setting_of script files in
      let z = and_parts (nat_lt 0 (factored s at) && nat_le at mark.line) (not (is_dropped s mark at)) live in
      let y = and_parts (nat_lt 0 (factored s at)) (nat_le at mark.line) z.0 in
      let factors : nat_lt 0 (job_for (commands_of script) (grids_from 0 (commands_of script)) at (Some named.0)).factors ≡ true = ap (λ (j : Job). nat_lt 0 j.factors) (sym (job-is script files at named.0 named.1)) ∙ y.0 in
      means named.0 named.1 named.2 (factors_none (commands_of script) (grids_from 0 (commands_of script)) at named.0 factors) (not-true (is_dropped s mark at) z.1) (leb-true at mark.line y.1) other

-- so it is no name that the mark's line makes
pub other-name : (script : List (Option Command)) (line at : ℕ) (x : Command) (made name : List ℕ) → KeepsRules script → command_at (commands_of script) line ≡ Some x → name_made x ≡ Some made → maker (commands_of script) line name ≡ Some at
    → made ≡ name → ⊥
other-name script line at x made name kept there makes means same = none (sym (made_name_free script line x made kept there makes) ∙ (ap (maker (commands_of script) line) same ∙ means))
  where
    none : None ≡ Some at → ⊥
    none e = cc

-- nor a name that the line drops
pub other-drop : (script : List (Option Command)) (files : Matrices) (mark : Mark) (at : ℕ) (dropped name : List ℕ) → KeepsRules script → command_at (commands_of script) mark.line ≡ Some (c.Discard dropped) → has_ended mark mark.line ≡ true
    → is_dropped (setting_of script files) mark at ≡ false → maker (commands_of script) mark.line name ≡ Some at → dropped ≡ name → ⊥
other-drop script files mark at dropped name kept there ended undropped means same =
    true≢false (sym (dropped-here script files mark at dropped kept there ended (ap (maker (commands_of script) mark.line) same ∙ means)) ∙ undropped)

-- ---- what stood under the last mark stands under the next one, but for what the next mark's line makes: its live slots hold what they held, and
-- what its name means, as seen from that line, has the value that it had
module _ (script : List (Option Command)) (files : Matrices) (kept : KeepsRules script) (mark : Mark) (old new : State) (values values' : Values)
    (stands : StandsFor (setting_of script files) (commands_of script) old values) (next : IsTrue (follows (setting_of script files) old.mark mark)) (at : ℕ) (name : List ℕ) (other : at ≢ mark.line)
    (same : KeepsTiles (setting_of script files) mark old new at) (value : is_dropped (setting_of script files) mark at ≡ false → maker (commands_of script) mark.line name ≡ Some at → values' name ≡ values name) where
  pub matrix-stands : is_live_matrix (setting_of script files) mark at ≡ true → Names (commands_of script) at name → StandsForMatrix (setting_of script files) new at name values'
  matrix-stands live named =
      let s : Setting = setting_of script files in
      let undropped : is_dropped s mark at ≡ false = not-true (is_dropped s mark at) (and_parts (is_matrix s at && has_ended mark at) (not (is_dropped s mark at)) live).1 in
      matrix-stays s mark old new at name values values' live same (value undropped (matrix-means script files kept mark at name live named other))
      (stands.matrices at name (matrix_was_live s old.mark mark (script_rising script files) next at other live) named)

  pub list-stands : IsScripted (setting_of script files) → is_live_list (setting_of script files) mark at ≡ true → Names (commands_of script) at name → StandsForList (setting_of script files) new at name values'
  list-stands scripted live named =
      let s : Setting = setting_of script files in
      let undropped : is_dropped s mark at ≡ false = not-true (is_dropped s mark at) (and_parts (nat_lt 0 (factored s at) && nat_le at mark.line) (not (is_dropped s mark at)) live).1 in
      list-stays s mark old new at name values values' scripted live same (value undropped (list-means script files kept mark at name live named other))
      (stands.lists at name (list_was_live s old.mark mark (script_rising script files) next at other live).0 named)

-- ---- a line that makes no matrix, or no list, has none that is live
pub no-matrix : (s : Setting) (mark : Mark) (line : ℕ) → is_matrix s line ≡ false → is_live_matrix s mark line ≡ true → ⊥
no-matrix s mark line none live =
    true≢false (sym (and_parts (is_matrix s line) (has_ended mark line) (and_parts (is_matrix s line && has_ended mark line) (not (is_dropped s mark line)) live).0).0 ∙ none)

pub no-list : (s : Setting) (mark : Mark) (line : ℕ) → factored s line ≡ 0 → is_live_list s mark line ≡ true → ⊥
no-list s mark line none live =
    true≢false (sym (and_parts (nat_lt 0 (factored s line)) (nat_le line mark.line) (and_parts (nat_lt 0 (factored s line) && nat_le line mark.line) (not (is_dropped s mark line)) live).0).0 ∙ ap (nat_lt 0) none)

-- ---- what stands, from what the mark's line made and from all else
pub record StandsApart (s : Setting) (ns : List Numbered) (mark : Mark) (st : State) (values : Values) : Type 0 where
  pub own_matrix : (name : List ℕ) → is_live_matrix s mark mark.line ≡ true → Names ns mark.line name → StandsForMatrix s st mark.line name values
  pub own_list : (name : List ℕ) → is_live_list s mark mark.line ≡ true → Names ns mark.line name → StandsForList s st mark.line name values
  pub other_matrices : (at : ℕ) (name : List ℕ) → at ≢ mark.line → is_live_matrix s mark at ≡ true → Names ns at name → StandsForMatrix s st at name values
  pub other_lists : (at : ℕ) (name : List ℕ) → at ≢ mark.line → is_live_list s mark at ≡ true → Names ns at name → StandsForList s st at name values

pub stands-whole : (s : Setting) (ns : List Numbered) (mark : Mark) (st : State) (values : Values) → st.mark ≡ mark → StandsApart s ns mark st values → StandsFor s ns st values
stands-whole s ns mark st values is h = record {
  matrices = λ at name live named.
      let now : is_live_matrix s mark at ≡ true = subst (λ m. is_live_matrix s m at ≡ true) is live in
      ⊎_elim
      (λ (e : at ≡ mark.line). subst (λ k. StandsForMatrix s st k name values) (sym e) (h.own_matrix name (subst (λ k. is_live_matrix s mark k ≡ true) e now) (subst (λ k. Names ns k name) e named)))
      (λ (other : at ≢ mark.line). h.other_matrices at name other now named)
      (cases_eq at mark.line);
  lists = λ at name live named.
      let now : is_live_list s mark at ≡ true = subst (λ m. is_live_list s m at ≡ true) is live in
      ⊎_elim
      (λ (e : at ≡ mark.line). subst (λ k. StandsForList s st k name values) (sym e) (h.own_list name (subst (λ k. is_live_list s mark k ≡ true) e now) (subst (λ k. Names ns k name) e named)))
      (λ (other : at ≢ mark.line). h.other_lists at name other now named)
      (cases_eq at mark.line);
}
