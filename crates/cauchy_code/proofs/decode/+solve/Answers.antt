use Rattle.std.proofs.Common.{◌≡◌, ◌∷◌, sym, ap, ◌∙◌, subst, ◌*◌, ◌%◌, ◌-◌, ◌+◌, length, arith, get_or}
use Rattle.std.proofs.lemmas.List.Elements.{All-from_recursion}
use Rattle.std.proofs.Math.Nat.{mod-lt, mod-eq_of_lt}
use Rattle.field_core.specs.Residue.{inverse}
use Rattle.cauchy_code.specs.Solving.{Solves, Scaled}
use Rattle.cauchy_code.proofs.Modular.{difference_pos}
use Rattle.cauchy_code.proofs.Inverses.{inverse_law, small_inverse}
use Rattle.cauchy_code.proofs.Steps.{rest, length-rest, room_left, columns_rest, solves_last, solves_more, take_seam}
use Rattle.cauchy_code.proofs.decode.+solve.Goals as goal

pub inv-requires-clause-nonzero : goal.inv-requires-clause-nonzero
inv-requires-clause-nonzero g t c =
    let front = All-from_recursion _ c.args.columns.now c.requires.columns 0 0 c.in-len1-up-columns.len_at_least in
    let pos = difference_pos g.K.Field.MODULUS (get_or c.args.columns.now 0 0) c.args.which (omega (arith, front.0, g.met.K.Field.at_least)) (omega (arith, g.met.K.Field.at_least)) front.1 in
    omega (arith, pos, c.sub.ensures)

pub solve-requires-in-len1-up-columns : goal.solve-requires-in-len1-up-columns
solve-requires-in-len1-up-columns g t c =
    λ κs h. (
      omega (arith, length-rest c.args.lost.now c.in-len1-up.len_at_least, c.decreases),
      (
        h,
        (
          room_left c.args.lost.now c.args.columns.now c.if-skipped.false c.in-len1-up.len_at_least c.in-len1-up-columns.len_at_least c.requires.room,
          (
            omega (arith, length-rest c.args.lost.now c.in-len1-up.len_at_least),
            (
              omega arith,
              (
                columns_rest c.args.x c.args.which c.args.columns.now c.requires.columns,
                omega (arith, c.mul-step.ensures, mod-lt (c.mul-in-len1-up-columns.result * c.inv.result) {m = g.K.Field.MODULUS} (omega (arith, g.met.K.Field.at_least))),
              ),
            ),
          ),
        ),
      ),
    )

pub returns-in_ok-insert-in-empty : goal.returns-in_ok-insert-in-empty
returns-in_ok-insert-in-empty g t c =
    let law = small_inverse g.K.Field.MODULUS g.met.K.Field.at_least g.met.K.Field.is_field in
    let items = c.in_ok-insert-in-empty.ensures.items ∙ ap (λ ks. c.mul.result ∷ ks) (c.in_ok-code-in-empty.ensures.items_if_clones_equal (λ y e. e)) in
    subst (λ ks. Solves g.K.Field.MODULUS (inverse g.K.Field.MODULUS) c.args.x c.args.lost.now c.args.columns.now c.args.which c.args.target ks) (sym items)
    (solves_last g.K.Field.MODULUS (inverse g.K.Field.MODULUS) law c.args.x c.args.which c.args.target c.mul.result (length (rest c.args.lost.now)) c.args.lost.now c.args.columns.now
    (omega (arith, g.met.K.Field.at_least)) c.if-skipped.false (omega (arith, length-rest c.args.lost.now c.in-len1-up.len_at_least)) c.in-empty.len_below c.requires.left c.requires.right c.requires.residue c.mul.ensures)

pub returns-in_ok-insert-in-len1-up-columns : goal.returns-in_ok-insert-in-len1-up-columns
returns-in_ok-insert-in-len1-up-columns g t c =
    let law = small_inverse g.K.Field.MODULUS g.met.K.Field.at_least g.met.K.Field.is_field in
    let front = All-from_recursion _ c.args.columns.now c.requires.columns 0 0 c.in-len1-up-columns.len_at_least in
    let pos = difference_pos g.K.Field.MODULUS (get_or c.args.columns.now 0 0) c.args.which (omega (arith, front.0, g.met.K.Field.at_least)) (omega (arith, g.met.K.Field.at_least)) front.1 in
    let small = mod-lt (get_or c.args.columns.now 0 0 + (g.K.Field.MODULUS - c.args.which)) {m = g.K.Field.MODULUS} (omega (arith, g.met.K.Field.at_least)) in
    let si = (inverse_law g.K.Field.MODULUS g.met.K.Field.is_field c.sub.result (omega (arith, pos, c.sub.ensures)) (omega (arith, small, c.sub.ensures))).0 in
    let sol = c.in_ok-code-in-len1-up-columns.ensures in
    let scaled : Scaled g.K.Field.MODULUS c.args.x (get_or c.args.columns.now 0 0) (c.args.x + 1) c.add_pivot-first.new.code c.in_ok-code-in-len1-up-columns.code.items = subst (λ es. Scaled g.K.Field.MODULUS c.args.x (get_or c.args.columns.now 0 0) (c.args.x + 1) c.add_pivot-first.new.code es) c.deref_mut.ensures.value c.add_pivot-first.ensures.scaled in
    let items : c.insert-in-len1-up-columns.new.self.items ≡ c.add_pivot-first.result ∷ c.add_pivot-first.new.code = c.in_ok-insert-in-len1-up-columns.ensures.items ∙ ap (λ ks. c.add_pivot-first.result ∷ ks) (take_seam _ c.add_pivot-first.new.code _ (sym c.deref_mut.ensures.len ∙ sym c.add_pivot-first.auto.code)) in
    subst (λ ks. Solves g.K.Field.MODULUS (inverse g.K.Field.MODULUS) c.args.x c.args.lost.now c.args.columns.now c.args.which c.args.target ks) (sym items)
    (solves_more g.K.Field.MODULUS (inverse g.K.Field.MODULUS) law c.args.x c.args.which c.args.target c.mul-in-len1-up-columns.result c.sub.result c.mul-step.result c.add_pivot-first.result c.args.lost.now c.args.columns.now c.add_pivot-first.new.code c.in_ok-code-in-len1-up-columns.code.items
    g.met.K.Field.at_least c.if-skipped.false c.in-len1-up.len_at_least c.in-len1-up-columns.len_at_least c.requires.left c.requires.right c.requires.residue c.requires.columns (c.add_pivot-first.auto.code ∙ ap length c.deref_mut.ensures.value)
    c.mul-in-len1-up-columns.ensures c.sub.ensures (si ∙ sym (mod-eq_of_lt (omega (arith, g.met.K.Field.at_least)))) (c.mul-step.ensures ∙ ap (λ n. (c.mul-in-len1-up-columns.result * n) % g.K.Field.MODULUS) c.inv.ensures.value) sol
    c.add_pivot-first.ensures.residues scaled c.add_pivot-first.ensures.residue c.add_pivot-first.ensures.own)
