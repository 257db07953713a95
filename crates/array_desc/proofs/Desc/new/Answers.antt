use Rattle.std.proofs.Common.{ℕ, ◌∙◌, sym, ap, refl, arith}
use Rattle.array_desc.specs.declared.Desc.{Desc}
use Rattle.array_desc.proofs.CountLaws.{most_rows-source}
use Rattle.array_desc.proofs.Desc.new.Goals as goal

pub returns-clause-made : goal.returns-clause-made
returns-clause-made c =
    let a = c.args in
    let with_rows : ℕ → Desc = λ rows. record { dtype = 1; ctxt = a.ctxt; m = a.m; n = a.n; mb = a.mb; nb = a.nb; rsrc = a.rsrc; csrc = a.csrc; lld = rows } in
    ap with_rows (c.numroc.ensures.count ∙ sym (most_rows-source a.m a.mb a.p a.rsrc (omega arith) (omega arith)))

pub returns-clause-in_range : goal.returns-clause-in_range
returns-clause-in_range c =
    let a = c.args in
    record {
      dense = refl;
      some_rows = omega arith;
      rows = omega arith;
      some_columns = omega arith;
      columns = omega arith;
      some_block_rows = omega arith;
      block_rows = omega arith;
      some_block_columns = omega arith;
      block_columns = omega arith;
      row_source = omega arith;
      column_source = omega arith;
      local_rows = c.numroc.ensures.count ∙ sym (most_rows-source a.m a.mb a.p a.rsrc (omega arith) (omega arith));
    }
