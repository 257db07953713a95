use Rattle.std.proofs.Common.{◌+◌, ◌++◌, ◌∷◌, [], length, drop, get_or, sym, ap, ◌∙◌, append_assoc, arith}
use Rattle.std.specs.Prelude.{vec_len}
use Rattle.std.proofs.lemmas.List.{append-nil}
use Rattle.rank_machine.specs.declared.record.Rec.TheVariants as r
use Rattle.rank_machine.specs.Losses.{falls}
use Rattle.block_world.proofs.Keeping.{no_loss, falls_here, falls_past, falls_end}
use Rattle.block_world.proofs.keeper.push_losses.Goals as goal
use Rattle.block_world.proofs.keeper.push_losses.Goals.{then-loss-at, else-loss-at}

pub push-requires : goal.push-requires
push-requires c =
    let i = c.loop-loss.loss-index in
    let here = ap length (falls_here c.args.losses.now i c.args.at c.loop-loss-test.true c.if-loss-at.true) in
    let k = c.loop-loss.invariant in
    omega (arith, here, k.len, k.room)

pub loop-loss-preserved : goal.loop-loss-preserved
loop-loss-preserved c =
    let ls = c.args.losses.now in
    let i = c.loop-loss.loss-index in
    let at = c.args.at in
    let k = c.loop-loss.invariant in
    elim c.if-loss-at.branch [
      | then-loss-at w ↦
          (let here = falls_here ls i at c.loop-loss-test.true w.if-loss-at.true in
          let sizes = ap length here in
          let x = r.Lose (get_or ls i no_loss).rank in
          let rest = falls (drop (i + 1) ls) at in
          rw w.journal-is
          (record {
            items = ap (λ l. l ++ rest) w.push.ensures.items ∙ append_assoc c.loop-loss.journal.items (x ∷ []) rest ∙ ap (λ l. c.loop-loss.journal.items ++ l) (sym here) ∙ k.items;
            len = (let a = w.push.ensures.len in let b = k.len in omega (arith, sizes, a, b));
            room = (let a = w.push.ensures.capacity in let b = k.room in omega (arith, a, b));
            capacity = (let a = w.push.ensures.capacity in let b = k.capacity in omega (arith, a, b));
          }))
      | else-loss-at w ↦
          (let past = falls_past ls i at c.loop-loss-test.true w.if-loss-at.false in
          rw w.journal-is
          (record {
            items = ap (λ l. c.loop-loss.journal.items ++ l) (sym past) ∙ k.items;
            len = ap (λ l. vec_len c.loop-loss.journal + length l) (sym past) ∙ k.len;
            room = k.room;
            capacity = k.capacity;
          }))
    ]

pub returns : goal.returns
returns c =
    let k = c.loop-loss.invariant in
    let none = falls_end c.args.losses.now c.loop-loss.loss-index c.args.at c.loop-loss-test.false in
    let sizes = ap length none in
    record {
      items = sym (append-nil c.loop-loss.journal.items) ∙ ap (λ l. c.loop-loss.journal.items ++ l) (sym none) ∙ k.items;
      len = (let b = k.len in omega (arith, sizes, b));
      capacity = k.capacity;
    }
