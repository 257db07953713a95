-- The setting of the script of one matrix.
use Rattle.std.proofs.Common.{◌≡◌, ◌<◌, ◌==◌, ◌&&◌, arith, ◌∷◌, ℕ, Bool, true, false, List, [], Option, Some, None, is_some, refl, sym, ap, subst, ◌∙◌, ⊎_elim, All}
use Rattle.std.specs.Prelude.{unwrap_or, if◌then◌else◌}
use Rattle.std.proofs.lemmas.List.Elements.{All-nil, All-cons}
use Rattle.std.proofs.lemmas.Bool.{cases_Bool, true≢false, eqb-true}
use Rattle.std.proofs.lemmas.Cmp.{nat_cmp_total}
use Rattle.std.specs.FinMap as map
use Rattle.run_data.specs.Matrix.{Matrix, cols, entry, AreWords, tabulate, zero_matrix, with_entry}
use Rattle.run_data.proofs.PartLaws.{AreWords-tabulate}
use Rattle.blacs_grid.specs.Limits.{IsGrid}
use Rattle.rank_machine.specs.declared.record.Loss.{Loss}
use Rattle.rank_machine.specs.declared.record.Rec.{Rec}
use Rattle.run_data.specs.declared.command.Command.{Command}
use Rattle.rank_machine.specs.declared.layout.Layout.{Layout}
use Rattle.rank_machine.specs.Setting.{Setting, Job, no_job, ranks, job, layout, is_matrix}
use Rattle.rank_machine.specs.Scripts.{Matrices, file_of, setting_of}
use Rattle.rank_slots.proofs.Factors.{scalars_at}
use Rattle.script_lines.specs.Layouts.{AreGrids, IsLayout}
use Rattle.script_lines.specs.Sound.{IsSound}
use Rattle.dist_matrix.specs.Strips.{HasShape}
use Rattle.world_tests.specs.Play.{IsOnlyMatrix, may_play}
use Rattle.world_tests.specs.OneMatrix.{lines, matrix, files, grid, where_it_lies, setting}

setting_is : (a b : Loss) (n : Option ℕ) → setting_of (lines a b n) files ≡ setting a b n
unfolding lines setting
setting_is a b None = refl
setting_is a b (Some n) = refl

two_grids : AreGrids (grid 0 ∷ grid 1 ∷ [])
two_grids = (
  record { some_rows = omega arith; rows = omega arith; some_columns = omega arith; columns = omega arith; code_columns = omega arith; ranks = omega arith },
  (record { some_rows = omega arith; rows = omega arith; some_columns = omega arith; columns = omega arith; code_columns = omega arith; ranks = omega arith }, tt),
)

laid_out : IsLayout where_it_lies
laid_out = record {
  grid = record { some_rows = omega arith; rows = omega arith; some_columns = omega arith; columns = omega arith; code_columns = omega arith; ranks = omega arith };
  desc = record {
    dense = refl;
    some_rows = omega arith;
    rows = omega arith;
    some_columns = omega arith;
    columns = omega arith;
    some_block_rows = omega arith;
    block_rows = omega arith;
    some_block_columns = omega arith;
    block_columns = omega arith;
    row_source = omega arith;
    column_source = omega arith;
    local_rows = refl;
  };
}

shape : HasShape where_it_lies matrix
unfolding tabulate matrix
shape = record { rows = refl; columns = refl }

-- the matrix of line 2 is the only one
pub makes_none : (a b c : Job) (x y : Bool) → x ≡ false → b.makes ≡ None → c.makes ≡ None → is_some (if x then a else if y then b else c).makes ≡ false
makes_none a b c true y e f g = absurd (true≢false e)
makes_none a b c false true e f g = ap is_some f
makes_none a b c false false e f g = ap is_some g

at_matrix : (A : ℕ → Type 0) (a b : Loss) (n : Option ℕ) → A 2 → (line : ℕ) → is_matrix (setting a b n) line ≡ true → A line
unfolding setting
at_matrix A a b n two line h =
    let s = setting a b n in
    ⊎_elim
    (λ (e : (2 == line) ≡ true). subst A (eqb-true 2 line e) two)
    (λ (e : (2 == line) ≡ false). absurd (true≢false (sym h ∙ makes_none (job s 2) (job s 3) (no_job line) (2 == line) (3 == line) e refl refl)))
    (cases_Bool (2 == line))

-- its file, whose words are residues
found : file_of files 2 ≡ matrix
unfolding files
found = ap (λ (o : Option Matrix). unwrap_or o (zero_matrix 0 0)) (map.get-insert nat_cmp_total map.empty 2 matrix 2)

pub word_or : (b : Bool) (x y : ℕ) → x < 65537 → y < 65537 → (if b then x else y) < 65537
word_or true x y e f = e
word_or false x y e f = f

words : AreWords 65537 matrix
unfolding matrix
words =
    let zeros : AreWords 65537 (zero_matrix 2 3) = AreWords-tabulate 65537 2 3 (λ i j. 0) (omega arith) (λ i j _ _. omega arith) in
    AreWords-tabulate 65537 (zero_matrix 2 3).rows (cols (zero_matrix 2 3)) (λ i j. if (i == 0) && (j == 0) then 7 else entry (zero_matrix 2 3) i j) (omega arith)
    (λ i j _ _. word_or ((i == 0) && (j == 0)) 7 (entry (zero_matrix 2 3) i j) (omega arith) (zeros.below i j))

is_sound : (a b : Loss) (n : Option ℕ) → a.rank < 2 → b.rank < 2 → IsSound 65537 (setting a b n)
unfolding setting
is_sound a b n a_there b_there =
    let s = setting a b n in
    let residue : ℕ → Type 0 = λ x. x < 65537 in
    let no_scalars : Job → Type 0 = λ j. All residue j.scalars in
    let is_there : Loss → Type 0 = λ l. l.rank < ranks s in
    record {
      modulus = refl;
      large = omega arith;
      grids = two_grids;
      layouts = at_matrix (λ line. IsLayout (layout s line)) a b n laid_out;
      files = at_matrix (λ line. AreWords 65537 (file_of files line)) a b n (subst (AreWords 65537) (sym found) words);
      scalars = λ line. scalars_at 65537 s.jobs line (All-cons no_scalars (job s 2) (job s 3 ∷ []) (All-nil residue) (All-cons no_scalars (job s 3) [] (All-nil residue) (All-nil no_scalars)));
      some_messages = omega arith;
      messages = omega arith;
      of_ranks = All-cons is_there a (b ∷ []) a_there (All-cons is_there b [] b_there (All-nil is_there));
    }

is_only : (a b : Loss) (n : Option ℕ) → IsOnlyMatrix (setting a b n) where_it_lies matrix
unfolding setting
is_only a b n = record {
  laid_out = laid_out;
  shape = shape;
  layouts = at_matrix (λ line. layout (setting a b n) line ≡ where_it_lies) a b n refl;
  files = at_matrix (λ line. file_of files line ≡ matrix) a b n found;
}

-- ---- for a world of this script
pub setting-of : (script : List (Option Command)) (by_line : Matrices) (a b : Loss) (n : Option ℕ) → script ≡ lines a b n → by_line ≡ files → setting_of script by_line ≡ setting a b n
setting-of script by_line a b n e f = (λ i. setting_of (e i) (f i)) ∙ setting_is a b n

losses_are : (a b : Loss) (n : Option ℕ) → a ∷ b ∷ [] ≡ (setting a b n).losses
unfolding setting
losses_are a b n = refl

pub losses-of : (s : Setting) (a b : Loss) (n : Option ℕ) → s ≡ setting a b n → a ∷ b ∷ [] ≡ s.losses
losses-of s a b n e = losses_are a b n ∙ sym (ap (λ (t : Setting). t.losses) e)

pub sound-of : (s : Setting) (a b : Loss) (n : Option ℕ) → a.rank < 2 → b.rank < 2 → s ≡ setting a b n → IsSound 65537 s
sound-of s a b n a_there b_there e = subst (IsSound 65537) (sym e) (is_sound a b n a_there b_there)

pub only-of : (s : Setting) (d : Layout) (m : Matrix) (a b : Loss) (n : Option ℕ) → s ≡ setting a b n → d ≡ where_it_lies → m ≡ matrix → IsOnlyMatrix s d m
only-of s d m a b n e f g =
    subst (λ (t : Setting). IsOnlyMatrix t d m) (sym e)
    (subst (λ (l : Layout). IsOnlyMatrix (setting a b n) l m) (sym f)
    (subst (λ (x : Matrix). IsOnlyMatrix (setting a b n) where_it_lies x) (sym g) (is_only a b n)))

pub may_play-of : (s : Setting) (j xs : List Rec) (a b : Loss) (n : Option ℕ) → s ≡ setting a b n → j ≡ [] → may_play (setting a b n) [] xs ≡ true → may_play s j xs ≡ true
may_play-of s j xs a b n e f h =
    subst (λ (t : Setting). may_play t j xs ≡ true) (sym e) (subst (λ (k : List Rec). may_play (setting a b n) k xs ≡ true) (sym f) h)
