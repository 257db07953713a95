-- What a test of an area says of a part that is equal to it.
use Rattle.std.proofs.Common.{◌≡◌, ◌&&◌, ◌==◌, ℕ, true, false, nat_lt, sym, subst, ◌∙◌}
use Rattle.std.proofs.lemmas.Bool.{and_parts}
use Rattle.run_data.specs.declared.matrix.Part.{Part}
use Rattle.run_data.specs.Matrix.{Matrix}
use Rattle.run_data.specs.Parts.{IsWithin, SameShape}
use Rattle.local_blas.specs.Kernels.{ShapesMultiply, ShapesSolve, with_added, with_product, everywhere}
use Rattle.rank_machine.specs.declared.slot.Slot.{Slot}
use Rattle.rank_machine.specs.declared.kernel.Cut.{Cut}
use Rattle.rank_machine.specs.declared.kernel.Cut.TheVariants as cut
use Rattle.rank_machine.specs.Setting.{Setting, layout, blocks}
use Rattle.rank_machine.specs.Effect.{reaches}
use Rattle.rank_machine.specs.Legal.{is_inside, same_area, is_square, in_matrix, is_cut_placed, height, breadth}
use Rattle.rank_slots.specs.Shapes.{is_in_triangle}
use Rattle.rank_slots.proofs.TestLaws.{within, same_shape, multiplies, solves}

pub within_at : (at area : Part) (m : Matrix) → at ≡ area → is_inside area m ≡ true → IsWithin at m
within_at at area m e h = subst (λ (x : Part). IsWithin x m) (sym e) (within area m h)

pub shape_at : (at area sp other : Part) → at ≡ area → sp ≡ other → same_area area other ≡ true → SameShape at sp
shape_at at area sp other e f h = subst (λ (x : Part). SameShape x sp) (sym e) (subst (λ (x : Part). SameShape area x) (sym f) (same_shape area other h))

pub multiplies_at : (at area lp left rp right : Part) → at ≡ area → lp ≡ left → rp ≡ right
    → ((height area == height left) && ((breadth left == height right) && (breadth area == breadth right))) ≡ true → ShapesMultiply at lp rp
multiplies_at at area lp left rp right e f g h =
    subst (λ (x : Part). ShapesMultiply x lp rp) (sym e)
    (subst (λ (x : Part). ShapesMultiply area x rp) (sym f) (subst (λ (x : Part). ShapesMultiply area left x) (sym g) (multiplies area left right h)))

pub solves_at : (at area x block : Part) → at ≡ area → x ≡ block → is_square block area ≡ true → ShapesSolve at x
solves_at at area x block e f h = subst (λ (y : Part). ShapesSolve y x) (sym e) (subst (λ (y : Part). ShapesSolve area y) (sym f) (solves block area h))

-- a cut that is placed lies in the matrix
pub upper_placed : (s : Setting) (rank : ℕ) (x slot : Slot) (c : Cut) (block : ℕ) → x ≡ slot → c ≡ cut.Upper block → is_cut_placed s rank slot c ≡ true → in_matrix s rank x ≡ true
upper_placed s rank x slot c block e f h = (and_parts (in_matrix s rank x) (nat_lt block (blocks (layout s x.id))) ((λ n. is_cut_placed s rank (e n) (sym f n)) ∙ h)).0

pub lower_placed : (s : Setting) (rank : ℕ) (x slot : Slot) (c : Cut) (block : ℕ) → x ≡ slot → c ≡ cut.Lower block → is_cut_placed s rank slot c ≡ true → in_matrix s rank x ≡ true
lower_placed s rank x slot c block e f h = (and_parts (in_matrix s rank x) (nat_lt block (blocks (layout s x.id))) ((λ n. is_cut_placed s rank (e n) (sym f n)) ∙ h)).0

-- what an addition makes, by the cut
pub added_whole : (p : ℕ) (s : Setting) (rank : ℕ) (slot : Slot) (c : Cut) (new dst : Matrix) (at area : Part) (a : ℕ) (src : Matrix) (sp other : Part) → at ≡ area → sp ≡ other → c ≡ cut.Whole
    → new ≡ with_added p dst at a src sp everywhere → new ≡ with_added p dst area a src other (reaches s rank slot c)
added_whole p s rank slot c new dst at area a src sp other e f g h = h ∙ (λ n. with_added p dst (e n) a src (f n) (reaches s rank slot (sym g n)))

pub added_upper : (p : ℕ) (s : Setting) (rank : ℕ) (x slot : Slot) (c : Cut) (block : ℕ) (new dst : Matrix) (at area : Part) (a : ℕ) (src : Matrix) (sp other : Part) → at ≡ area → sp ≡ other → x ≡ slot → c ≡ cut.Upper block
    → new ≡ with_added p dst at a src sp (is_in_triangle (layout s x.id) rank true block) → new ≡ with_added p dst area a src other (reaches s rank slot c)
added_upper p s rank x slot c block new dst at area a src sp other e f g k h = h ∙ (λ n. with_added p dst (e n) a src (f n) (reaches s rank (g n) (sym k n)))

pub added_lower : (p : ℕ) (s : Setting) (rank : ℕ) (x slot : Slot) (c : Cut) (block : ℕ) (new dst : Matrix) (at area : Part) (a : ℕ) (src : Matrix) (sp other : Part) → at ≡ area → sp ≡ other → x ≡ slot → c ≡ cut.Lower block
    → new ≡ with_added p dst at a src sp (is_in_triangle (layout s x.id) rank false block) → new ≡ with_added p dst area a src other (reaches s rank slot c)
added_lower p s rank x slot c block new dst at area a src sp other e f g k h = h ∙ (λ n. with_added p dst (e n) a src (f n) (reaches s rank (g n) (sym k n)))

pub product_at : (p : ℕ) (new dst : Matrix) (at area : Part) (a : ℕ) (left : Matrix) (lp lp' : Part) (right : Matrix) (rp rp' : Part) → at ≡ area → lp ≡ lp' → rp ≡ rp'
    → new ≡ with_product p dst at a left lp right rp → new ≡ with_product p dst area a left lp' right rp'
product_at p new dst at area a left lp lp' right rp rp' e f g h = h ∙ (λ n. with_product p dst (e n) a left (f n) right (g n))
