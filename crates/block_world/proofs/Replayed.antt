-- A world with more records is the replay of its journal.
use Rattle.std.proofs.Common.{◌≡◌, ◌+◌, ◌-◌, ◌<◌, ◌≤◌, ◌++◌, ◌∷◌, ℕ, zero, suc, Bool, true, false, List, [], length, take, replicate, refl, sym, ap, subst, ◌∙◌, arith}
use Rattle.std.proofs.Math.Seq.{take-append_seam}
use Rattle.std.proofs.lemmas.List.{length-append}
use Rattle.std.specs.Prelude.{Option}
use Rattle.field_core.specs.Residue.{inverse}
use Rattle.field_core.specs.FieldLaws.{IsField}
use Rattle.rank_link.specs.Traffic.{Traffic, empty_traffic}
use Rattle.rank_run.specs.Machine.{Machine, machine}
use Rattle.run_data.specs.declared.command.Command.{Command}
use Rattle.rank_machine.specs.declared.record.Rec.{Rec}
use Rattle.rank_machine.specs.declared.slot.Tile.{Tile}
use Rattle.rank_machine.specs.declared.mark.Mark.{Mark}
use Rattle.rank_machine.specs.Setting.{Setting, ranks}
use Rattle.rank_machine.specs.Scripts.{Matrices, setting_of}
use Rattle.rank_machine.specs.State.{State, first_mark}
use Rattle.rank_machine.specs.Effect.{after}
use Rattle.rank_machine.specs.Legal.{IsLegalRec}
use Rattle.rank_machine.specs.Losses.{is_numbered}
use Rattle.rank_machine.proofs.Runs.{state_after-push, IsLegal-push}
use Rattle.script_lines.specs.declared.lines.Line.{Line}
use Rattle.script_lines.specs.Lines.{IsTableOf}
use Rattle.script_lines.proofs.TableLaws.{layout_on, is_matrix_on}
use Rattle.rank_slots.specs.Rank.{Rank}
use Rattle.rank_slots.specs.Stands.{AgreesOn, AreFactorsBelow, Stands, AreResidues}
use Rattle.rank_slots.proofs.Factors.{factors_below}
use Rattle.rank_slots.proofs.Worlds.{stands-opened, residues-opened}
use Rattle.rank_machine.specs.declared.record.Loss.{Loss}
use Rattle.run_laws.specs.Due.{has_fallen, is_due_in}
use Rattle.block_world.specs.Log.{Log, recorded, is_due_next, empty_log}
use Rattle.block_world.specs.Did.{IsMade, IsStopped}
use Rattle.block_world.proofs.Keeping.{fallen-push}
use Rattle.block_world.proofs.InPlace.{in_place-push}
use Rattle.block_world.specs.Ranks.{empty_ranks}
use Rattle.script_lines.specs.Sound.{IsSound}
use Rattle.block_world.specs.World.{WorldView, setting_in, state_of, is_due, noted}
use Rattle.block_world.specs.Replay.{view_of, flag_at, AreFlags, IsReplay}

-- ---- one more numbered record
-- what the fields have to be
pub record IsAfter (p : ℕ) (w : WorldView) (table : List Line) (x : Rec) (m : Machine Rank Tile) (mark : Mark) (bs : List Bool) : Type 0 where
  pub legal : IsLegalRec (setting_in w) (state_of w) x
  pub one : is_numbered x ≡ true
  pub due : is_due w ≡ false
  pub stands : Stands (setting_in w) table m (after (setting_in w) (state_of w) x)
  pub residues : AreResidues p m
  pub mark_is : mark ≡ (after (setting_in w) (state_of w) x).mark
  pub flags : AreFlags (setting_in w) (after (setting_in w) (state_of w) x) bs

pub IsReplay-noted : (p : ℕ) (w : WorldView) (losses : List Loss) (m m' : Machine Rank Tile) (mark mark' : Mark) (bs bs' : List Bool) (x : Rec) (h : IsReplay p w losses m mark bs) → IsAfter p w h.table x m' mark' bs' → IsReplay p (noted w x) losses m' mark' bs'
IsReplay-noted p w losses m m' mark mark' bs bs' x h next =
    let s : Setting = setting_in w in
    let st = sym (state_after-push s w.journal x) in
    record {
      sound = h.sound;
      losses_are = h.losses_are;
      table = h.table;
      lines = h.lines;
      legal = IsLegal-push s w.journal x h.legal next.legal;
      in_place = in_place-push s w.journal x next.one next.due h.in_place;
      stands = subst (Stands s h.table m') st next.stands;
      residues = next.residues;
      mark_is = next.mark_is ∙ ap (λ (n : State). n.mark) st;
      flags = subst (λ (n : State). AreFlags s n bs') st next.flags;
    }

-- the fields as they are
pub record Fields : Type 0 where
  pub log : Log
  pub mems : List Rank
  pub links : Traffic Tile
  pub lost : List Bool

abbrev pub IsHeld : ℕ → List (Option Command) → Matrices → Mark → Fields → Type 0
IsHeld p script files mark f = IsReplay p (view_of script files f.log) f.log.losses (machine f.mems f.links) mark f.lost

pub fields_are : (p : ℕ) (script : List (Option Command)) (files : Matrices) (mark : Mark) (a b : Fields) → a ≡ b → IsHeld p script files mark b → IsHeld p script files mark a
fields_are p script files mark a b e h = subst (IsHeld p script files mark) (sym e) h

-- what a clause says of the world
pub legal_here : (w now : WorldView) (x : Rec) → w ≡ now → IsLegalRec (setting_in now) (state_of now) x → IsLegalRec (setting_in w) (state_of w) x
legal_here w now x v h = subst (λ (u : WorldView). IsLegalRec (setting_in u) (state_of u) x) (sym v) h

-- the keeper tells whether a loss is due
pub due_is : (p : ℕ) (script : List (Option Command)) (files : Matrices) (k : Log) (m : Machine Rank Tile) (mark : Mark) (bs : List Bool) → IsReplay p (view_of script files k) k.losses m mark bs → is_due_next k ≡ is_due (view_of script files k)
due_is p script files k m mark bs h = ap (λ (ls : List Loss). is_due_in ls k.journal) h.losses_are

-- by what a clause says of the world
pub due_here : (p : ℕ) (script : List (Option Command)) (files : Matrices) (k : Log) (m : Machine Rank Tile) (mark : Mark) (bs : List Bool) (now : WorldView) → IsReplay p (view_of script files k) k.losses m mark bs → view_of script files k ≡ now → is_due_next k ≡ is_due now
due_here p script files k m mark bs now h v = due_is p script files k m mark bs h ∙ ap is_due v

-- a call that is hit, and one that made its record
pub hit_here : (p : ℕ) (script : List (Option Command)) (files : Matrices) (k : Log) (m : Machine Rank Tile) (mark : Mark) (bs : List Bool) (now : WorldView) → IsReplay p (view_of script files k) k.losses m mark bs → view_of script files k ≡ now
    → is_due_next k ≡ true → IsStopped now now
hit_here p script files k m mark bs now h v e = record { due = sym (due_here p script files k m mark bs now h v) ∙ e; kept = refl }

pub made_here : (p : ℕ) (script : List (Option Command)) (files : Matrices) (k k' : Log) (m : Machine Rank Tile) (mark : Mark) (bs : List Bool) (now : WorldView) (x : Rec) → IsReplay p (view_of script files k) k.losses m mark bs → view_of script files k ≡ now
    → is_due_next k ≡ false → k' ≡ recorded k x → IsMade now (view_of script files k') x
made_here p script files k k' m mark bs now x h v e is = record { due = sym (due_here p script files k m mark bs now h v) ∙ e; noted = ap (view_of script files) is ∙ ap (λ u. noted u x) v }

-- a record that was put may be taken back
pub record MayTakeBack (k : Log) (room : ℕ) : Type 0 where
  pub some : 0 < length k.journal
  pub numbered : has_fallen k.journal ≡ false
  pub due : is_due_in k.losses (take (length k.journal - 1) k.journal) ≡ false
  pub room_is : room ≤ k.room + 1

may_take_back : (k : Log) (x : Rec) → is_numbered x ≡ true → is_due_next k ≡ false → MayTakeBack (recorded k x) k.room
may_take_back k x one none =
    let len = length-append k.journal (x ∷ []) in
    let less : length (k.journal ++ x ∷ []) - 1 ≡ length k.journal = omega (arith, len) in
    record {
      some = omega (arith, len);
      numbered = fallen-push k.journal x one;
      due = ap (λ (js : List Rec). is_due_in k.losses js) ((λ i. take (less i) (k.journal ++ x ∷ [])) ∙ take-append_seam k.journal (x ∷ [])) ∙ none;
      room_is = omega arith;
    }

pub take_back_here : (k k' : Log) (x : Rec) (room : ℕ) → is_numbered x ≡ true → is_due_next k ≡ false → k' ≡ recorded k x → room ≡ k.room → MayTakeBack k' room
take_back_here k k' x room one none is e = subst (λ (y : Log × ℕ). MayTakeBack y.0 y.1) (λ i. (sym is i, sym e i)) (may_take_back k x one none)

-- ---- flags
-- a record that no loss and no commit is
pub flags_stay : (s : Setting) (st st' : State) (bs : List Bool) → st.lost ≡ st'.lost → AreFlags s st bs → AreFlags s st' bs
flags_stay s st st' bs e h = record { count = h.count; same = λ rank. h.same rank ∙ (λ i. e i rank) }

all_down : (n rank : ℕ) → flag_at (replicate n false) rank ≡ false
all_down zero rank = refl
all_down (suc n) zero = refl
all_down (suc n) (suc rank) = all_down n rank

-- ---- a world in which nothing has happened
pub IsReplay-opened : (p : ℕ) (script : List (Option Command)) (files : Matrices) (table : List Line) (losses : List Loss) (room : ℕ) (x : Machine Rank Tile) (mark : Mark) (bs : List Bool)
    → IsSound p (setting_of script files) → losses ≡ (setting_of script files).losses → IsTableOf (setting_of script files).jobs table
    → x ≡ machine (empty_ranks table (ranks (setting_of script files))) (empty_traffic (ranks (setting_of script files)) (setting_of script files).capacity) → mark ≡ first_mark
    → length bs ≡ ranks (setting_of script files) → ((rank : ℕ) → flag_at bs rank ≡ false)
    → IsReplay p (view_of script files (empty_log losses room)) losses x mark bs
IsReplay-opened p script files table losses room x mark bs sound losses_are lines fields first count down =
    let s : Setting = setting_of script files in
    subst (λ y. IsReplay p (view_of script files (empty_log losses room)) losses y mark bs) (sym fields)
    (record {
      sound = sound;
      losses_are = losses_are;
      table = table;
      lines = lines;
      legal = tt;
      in_place = refl;
      stands = stands-opened s table;
      residues = residues-opened p table (ranks s) s.capacity;
      mark_is = first;
      flags = record { count = count; same = down };
    })

pub down_at : (n rank : ℕ) → flag_at (replicate n false) rank ≡ false
down_at n rank = all_down n rank

-- ---- what a table says of the setting
pub agrees : (p : ℕ) (script : List (Option Command)) (files : Matrices) (table : List Line) → IsSound p (setting_of script files) → IsTableOf (setting_of script files).jobs table → AgreesOn (setting_of script files) p table
agrees p script files table sound lines =
    let s : Setting = setting_of script files in
    record {
      some = omega (arith, sound.large);
      modulus = sound.modulus;
      inverses = ap inverse sound.modulus;
      layouts = layout_on s table p lines;
      matrices = is_matrix_on s table p lines;
    }

pub below : (p : ℕ) (script : List (Option Command)) (files : Matrices) → IsField p → IsSound p (setting_of script files) → AreFactorsBelow (setting_of script files) p
below p script files field sound =
    let s : Setting = setting_of script files in
    factors_below p (omega (arith, sound.large)) field s sound.modulus (ap inverse sound.modulus) sound.scalars sound.grids
