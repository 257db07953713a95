-- The commands of a script's lines: which lines there are, which of their commands make no records, and that the ranks can run them all.
use Rattle.std.proofs.Common.{◌≡◌, ◌+◌, ◌≤◌, ℕ, suc, true, false, List, Option, Some, refl, sym, ap, subst, add-one, arith, inl, inr}
use Rattle.std.specs.Prelude.{◌⊎◌}
use Rattle.std.proofs.lemmas.Bool.{false≢true}
use Rattle.run_data.specs.declared.command.Command.{Command}
use Rattle.run_data.specs.declared.command.Command.TheVariants as c
use Rattle.run_data.specs.declared.index_list.IndexList.{IndexList}
use Rattle.run_data.specs.Script.{commands_of, command_at, makes_records}
use Rattle.rank_machine.specs.Scripts.{Matrices}
use Rattle.script_rules.specs.Runs.{can_run}
use Rattle.script_bounds.specs.Accepted.{KeepsRules}
use Rattle.script_bounds.proofs.Limits.{OnLine, OnLine-from_command_at}
use Rattle.block_world.specs.World.{WorldView}
use Rattle.whole_run.specs.Between.{HasRun}
use Rattle.whole_run.proofs.Passing.{IsSilent, passed}

-- a line with a command is one of the few lines of a script
pub line-few : (script : List (Option Command)) (line : ℕ) (x : Command) → KeepsRules script → command_at (commands_of script) line ≡ Some x → line ≤ 4096
line-few script line x kept e =
    let on : OnLine script line x = OnLine-from_command_at script line x e in
    omega (arith, on.number, on.inside, kept.few)

-- no other command than these can be run
pub none-other : (x : Command) → can_run x ≡ true
    → ((name : List ℕ) (p q f : ℕ) → x ≡ c.Grid name p q f → ⊥) → ((name grid : List ℕ) (m n mb nb rsrc csrc : ℕ) (file : List ℕ) → x ≡ c.Matrix name grid m n mb nb rsrc csrc file → ⊥) → ((name : List ℕ) → x ≡ c.Print name → ⊥)
    → ((name : List ℕ) → x ≡ c.Discard name → ⊥) → ((kind : List ℕ) → x ≡ c.Topology kind → ⊥) → ((n : ℕ) → x ≡ c.Links n → ⊥) → ((numbers : IndexList) → x ≡ c.Order numbers → ⊥) → ((at rank : ℕ) → x ≡ c.Lose at rank → ⊥)
    → ((n : ℕ) → x ≡ c.Spares n → ⊥) → ((n : ℕ) → x ≡ c.Field n → ⊥) → ⊥
none-other (c.Grid name p q f) can g m w d t l o e s k = g name p q f refl
none-other (c.Matrix name grid h n mb nb rsrc csrc file) can g m w d t l o e s k = m name grid h n mb nb rsrc csrc file refl
none-other (c.Print name) can g m w d t l o e s k = w name refl
none-other (c.Discard name) can g m w d t l o e s k = d name refl
none-other (c.Topology kind) can g m w d t l o e s k = t kind refl
none-other (c.Links n) can g m w d t l o e s k = l n refl
none-other (c.Order numbers) can g m w d t l o e s k = o numbers refl
none-other (c.Lose at rank) can g m w d t l o e s k = e at rank refl
none-other (c.Spares n) can g m w d t l o e s k = s n refl
none-other (c.Field n) can g m w d t l o e s k = k n refl
none-other x can g m w d t l o e s k = absurd (false≢true can)

-- these commands make no records
abbrev pub IsTold : Command → Type 0
IsTold x = ((name : List ℕ) × (p : ℕ) × (q : ℕ) × (f : ℕ) × (x ≡ c.Grid name p q f)) ⊎ (((n : ℕ) × (x ≡ c.Field n)) ⊎ (((n : ℕ) × (x ≡ c.Links n)) ⊎ (((n : ℕ) × (x ≡ c.Spares n))
    ⊎ (((numbers : IndexList) × (x ≡ c.Order numbers)) ⊎ (((kind : List ℕ) × (x ≡ c.Topology kind)) ⊎ ((at : ℕ) × (rank : ℕ) × (x ≡ c.Lose at rank)))))))

told-silent : (x : Command) → IsTold x → makes_records x ≡ false
told-silent x (inl grid) = ap makes_records grid.4
told-silent x (inr (inl field)) = ap makes_records field.1
told-silent x (inr (inr (inl links))) = ap makes_records links.1
told-silent x (inr (inr (inr (inl spares)))) = ap makes_records spares.1
told-silent x (inr (inr (inr (inr (inl order))))) = ap makes_records order.1
told-silent x (inr (inr (inr (inr (inr (inl topology)))))) = ap makes_records topology.1
told-silent x (inr (inr (inr (inr (inr (inr lose)))))) = ap makes_records lose.2

-- so what holds before such a line holds after it
pub told-passed : (script : List (Option Command)) (files : Matrices) (done : ℕ) (w : WorldView) (out : List ℕ) (x : Command) → HasRun script files done w out → command_at (commands_of script) (done + 1) ≡ Some x → IsTold x → HasRun script files (done + 1) w out
told-passed script files done w out x h e told =
    let there : command_at (commands_of script) (suc done) ≡ Some x = subst (λ k. command_at (commands_of script) k ≡ Some x) (add-one done) e in
    subst (λ k. HasRun script files k w out) (sym (add-one done)) (passed script files done w out h (subst IsSilent (sym there) (told-silent x told)))
