use Rattle.phase_rounds.proofs.Products.{multiplies, product_legal, product_held, product_changes}
use Rattle.phase_rounds.proofs.rounds.product_rounds_add_products.Goals as goal

pub returns-clause-turns : goal.returns-clause-turns
returns-clause-turns c = multiplies

pub returns-clause-legal : goal.returns-clause-legal
returns-clause-legal c = product_legal

pub returns-clause-words : goal.returns-clause-words
returns-clause-words c = product_held

pub returns-clause-else_kept : goal.returns-clause-else_kept
returns-clause-else_kept c = product_changes
