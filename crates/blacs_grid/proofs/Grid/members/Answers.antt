use Rattle.std.proofs.Common.{◌≡◌, ℕ, ◌*◌, refl, sym, ◌∙◌, ap, subst}
use Rattle.blacs_grid.specs.declared.Grid.{Grid}
use Rattle.blacs_grid.specs.declared.Scope.{Scope}
use Rattle.blacs_grid.specs.Places.{IsScopeOf, members, AreMembers}
use Rattle.blacs_grid.specs.Limits.{IsGrid}
use Rattle.blacs_grid.proofs.ScopeLaws.{AreMembers-members}
use Rattle.blacs_grid.proofs.Grid.members.Goals as goal

-- where a number is the count, the members of that count are the scope's
exact : (g : Grid) (scope variant : Scope) (count : ℕ) → IsGrid g → IsScopeOf g scope → scope ≡ variant → count ≡ members g variant → AreMembers g scope count
exact g scope variant count is scope_in variant_is count_is =
    subst (λ n. AreMembers g scope n) (sym (count_is ∙ sym (ap (members g) variant_is))) (AreMembers-members g scope is scope_in)

pub returns-in-Row-clause-exact : goal.returns-in-Row-clause-exact
returns-in-Row-clause-exact c =
    exact c.args.self.now c.args.scope _ c.width.result c.requires.grid c.requires.scope_in c.in-Row.is c.width.ensures

pub returns-in-Column-clause-exact : goal.returns-in-Column-clause-exact
returns-in-Column-clause-exact c =
    exact c.args.self.now c.args.scope _ c.args.self.now.p c.requires.grid c.requires.scope_in c.in-Column.is refl

pub returns-in-All-clause-exact : goal.returns-in-All-clause-exact
returns-in-All-clause-exact c =
    exact c.args.self.now c.args.scope _ (c.args.self.now.p * c.args.self.now.q) c.requires.grid c.requires.scope_in c.in-All.is refl
