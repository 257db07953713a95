-- The setting of the script of one word.
use Rattle.std.proofs.Common.{◌≡◌, ◌<◌, ◌==◌, ◌&&◌, arith, ◌∷◌, ℕ, Bool, true, false, List, [], Option, None, is_some, refl, sym, ap, subst, ◌∙◌, ⊎_elim, All}
use Rattle.std.specs.Prelude.{unwrap_or, if◌then◌else◌}
use Rattle.std.proofs.lemmas.List.Elements.{All-nil, All-cons}
use Rattle.std.proofs.lemmas.Bool.{cases_Bool, true≢false, eqb-true}
use Rattle.std.proofs.lemmas.Cmp.{nat_cmp_total}
use Rattle.std.specs.FinMap as map
use Rattle.run_data.specs.Matrix.{Matrix, cols, entry, AreWords, tabulate, zero_matrix}
use Rattle.run_data.proofs.PartLaws.{AreWords-tabulate}
use Rattle.run_data.specs.declared.command.Command.{Command}
use Rattle.rank_machine.specs.declared.record.Loss.{Loss}
use Rattle.rank_machine.specs.declared.record.Rec.{Rec}
use Rattle.rank_machine.specs.declared.layout.Layout.{Layout}
use Rattle.rank_machine.specs.Setting.{Setting, Job, no_job, ranks, job, layout, is_matrix}
use Rattle.rank_machine.specs.Scripts.{Matrices, file_of, setting_of}
use Rattle.rank_slots.proofs.Factors.{scalars_at}
use Rattle.script_lines.specs.Layouts.{AreGrids, IsLayout}
use Rattle.script_lines.specs.Sound.{IsSound}
use Rattle.dist_matrix.specs.Strips.{HasShape}
use Rattle.world_tests.specs.Play.{IsOnlyMatrix, may_play}
use Rattle.world_tests.specs.OneMatrix.{grid}
use Rattle.world_tests.specs.OneWord.{lines, matrix, files, where_it_lies, setting}
use Rattle.world_tests.proofs.Sound.{makes_none, word_or}

setting_is : setting_of lines files ≡ setting
unfolding lines setting
setting_is = refl

one_grid : AreGrids (grid 0 ∷ [])
one_grid = (record { some_rows = omega arith; rows = omega arith; some_columns = omega arith; columns = omega arith; code_columns = omega arith; ranks = omega arith }, tt)

laid_out : IsLayout where_it_lies
laid_out = record {
  grid = record { some_rows = omega arith; rows = omega arith; some_columns = omega arith; columns = omega arith; code_columns = omega arith; ranks = omega arith };
  desc = record {
    dense = refl;
    some_rows = omega arith;
    rows = omega arith;
    some_columns = omega arith;
    columns = omega arith;
    some_block_rows = omega arith;
    block_rows = omega arith;
    some_block_columns = omega arith;
    block_columns = omega arith;
    row_source = omega arith;
    column_source = omega arith;
    local_rows = refl;
  };
}

shape : HasShape where_it_lies matrix
unfolding tabulate matrix
shape = record { rows = refl; columns = refl }

-- the matrix of line 2 is the only one
at_matrix : (A : ℕ → Type 0) → A 2 → (line : ℕ) → is_matrix setting line ≡ true → A line
unfolding setting
at_matrix A two line h =
    let s = setting in
    ⊎_elim
    (λ (e : (2 == line) ≡ true). subst A (eqb-true 2 line e) two)
    (λ (e : (2 == line) ≡ false). absurd (true≢false (sym h ∙ makes_none (job s 2) (job s 3) (no_job line) (2 == line) (3 == line) e refl refl)))
    (cases_Bool (2 == line))

-- its file, whose word is a residue
found : file_of files 2 ≡ matrix
unfolding files
found = ap (λ (o : Option Matrix). unwrap_or o (zero_matrix 0 0)) (map.get-insert nat_cmp_total map.empty 2 matrix 2)

words : AreWords 65537 matrix
unfolding matrix
words =
    let zeros : AreWords 65537 (zero_matrix 1 1) = AreWords-tabulate 65537 1 1 (λ i j. 0) (omega arith) (λ i j _ _. omega arith) in
    AreWords-tabulate 65537 (zero_matrix 1 1).rows (cols (zero_matrix 1 1)) (λ i j. if (i == 0) && (j == 0) then 7 else entry (zero_matrix 1 1) i j) (omega arith)
    (λ i j _ _. word_or ((i == 0) && (j == 0)) 7 (entry (zero_matrix 1 1) i j) (omega arith) (zeros.below i j))

is_sound : IsSound 65537 setting
unfolding setting
is_sound =
    let s = setting in
    let residue : ℕ → Type 0 = λ x. x < 65537 in
    let no_scalars : Job → Type 0 = λ j. All residue j.scalars in
    record {
      modulus = refl;
      large = omega arith;
      grids = one_grid;
      layouts = at_matrix (λ line. IsLayout (layout s line)) laid_out;
      files = at_matrix (λ line. AreWords 65537 (file_of files line)) (subst (AreWords 65537) (sym found) words);
      scalars = λ line. scalars_at 65537 s.jobs line (All-cons no_scalars (job s 2) (job s 3 ∷ []) (All-nil residue) (All-cons no_scalars (job s 3) [] (All-nil residue) (All-nil no_scalars)));
      some_messages = omega arith;
      messages = omega arith;
      of_ranks = All-nil (λ (l : Loss). l.rank < ranks s);
    }

is_only : IsOnlyMatrix setting where_it_lies matrix
unfolding setting
is_only = record {
  laid_out = laid_out;
  shape = shape;
  layouts = at_matrix (λ line. layout setting line ≡ where_it_lies) refl;
  files = at_matrix (λ line. file_of files line ≡ matrix) found;
}

no_losses : [] ≡ setting.losses
unfolding setting
no_losses = refl

-- ---- for a world of this script
pub setting-of : (script : List (Option Command)) (by_line : Matrices) → script ≡ lines → by_line ≡ files → setting_of script by_line ≡ setting
setting-of script by_line e f = (λ i. setting_of (e i) (f i)) ∙ setting_is

pub losses-of : (s : Setting) → s ≡ setting → [] ≡ s.losses
losses-of s e = no_losses ∙ sym (ap (λ (t : Setting). t.losses) e)

pub sound-of : (s : Setting) → s ≡ setting → IsSound 65537 s
sound-of s e = subst (IsSound 65537) (sym e) is_sound

pub only-of : (s : Setting) (d : Layout) (m : Matrix) → s ≡ setting → d ≡ where_it_lies → m ≡ matrix → IsOnlyMatrix s d m
only-of s d m e f g =
    subst (λ (t : Setting). IsOnlyMatrix t d m) (sym e)
    (subst (λ (l : Layout). IsOnlyMatrix setting l m) (sym f)
    (subst (λ (x : Matrix). IsOnlyMatrix setting where_it_lies x) (sym g) is_only))

pub may_play-of : (s : Setting) (j xs : List Rec) → s ≡ setting → j ≡ [] → may_play setting [] xs ≡ true → may_play s j xs ≡ true
may_play-of s j xs e f h =
    subst (λ (t : Setting). may_play t j xs ≡ true) (sym e) (subst (λ (k : List Rec). may_play setting k xs ≡ true) (sym f) h)
