-- What the lines count with one more.
use Rattle.std.proofs.Common.{◌≡◌, ℕ, suc, ◌+◌, ◌*◌, ◌≤◌, Bool, true, false, cond, ltb, leb, List, [], ◌∷◌, ◌++◌, length, Option, Some, None, refl, sym, ap, ◌∙◌, subst, append_assoc, arith}
use Rattle.std.specs.Prelude.{◌&&◌}
use Rattle.std.specs.List.{list_all}
use Rattle.std.proofs.lemmas.Bool.{eqb-true, ltb-true, leb-true}
use Rattle.std.proofs.lemmas.List.{append-nil}
use Rattle.blacs_grid.specs.Limits.{rank_limit}
use Rattle.run_data.specs.declared.command.Command.{Command}
use Rattle.run_data.specs.declared.command.Command.TheVariants as c
use Rattle.run_data.specs.Script.{Numbered, commands_from, commands_of, modulus_after, modulus_from}
use Rattle.script_rules.specs.declared.counts.Counts.{Counts}
use Rattle.script_words.specs.Limits.{live_limit, matrix_limit, printed_limit, orders_limit}
use Rattle.script_rules.specs.declared.told.Told.{Told}
use Rattle.script_rules.specs.Rules.{total_after, total, ranks_made, matrices_made, matrices_dropped, lists_made, lists_dropped, words_printed, links_set, spares_set, fields_set, numbers_ordered, maker_command, is_matrix_line, is_list_line, process_rows, process_columns, matrix_words, ranks_of, matrix_lines, live_matrices, printed_words, link_lines, spares_lines, field_lines, ordered_numbers, is_order_number, grid_rules, matrix_rules, print_rules, links_rules, spares_rules, field_rules, order_rules, own_rules}
use Rattle.script_words.specs.Tables.{first_code}
use Rattle.script_rules.specs.Counted.{AreCounts}
use Rattle.script_words.proofs.Tables.{all_kept}

total_after-append : (f : List Numbered → Numbered → ℕ) (before ns : List Numbered) (n : Numbered) → total_after f before (ns ++ n ∷ []) ≡ total_after f before ns + f (before ++ ns) n
total_after-append f before [] n = omega (arith, ap (λ xs. f xs n) (append-nil before))
total_after-append f before (m ∷ ns) n =
    let step = total_after-append f (before ++ m ∷ []) ns n in
    omega (arith, step, ap (λ xs. f xs n) (append_assoc before (m ∷ []) ns))

pub total-append : (f : List Numbered → Numbered → ℕ) (ns : List Numbered) (n : Numbered) → total f (ns ++ n ∷ []) ≡ total f ns + f ns n
total-append f ns n = total_after-append f [] ns n

pub modulus_from-append : (before : ℕ) (ns : List Numbered) (n : Numbered) → modulus_from before (ns ++ n ∷ []) ≡ modulus_after n.command (modulus_from before ns)
modulus_from-append before [] n = refl
modulus_from-append before (m ∷ ns) n = modulus_from-append (modulus_after m.command before) ns n

-- what one more command adds to the counts
pub record Adds (counts counts' : Counts) (cs : List Numbered) (line : ℕ) (d : Command) : Type 0 where
  pub ranks : counts'.ranks ≡ counts.ranks + ranks_made d
  pub matrices : counts'.matrices ≡ counts.matrices + matrices_made d
  pub dropped : counts'.dropped ≡ counts.dropped + matrices_dropped cs line d
  pub lists : counts'.lists ≡ counts.lists + lists_made d
  pub dropped_lists : counts'.dropped_lists ≡ counts.dropped_lists + lists_dropped cs line d
  pub printed : counts'.printed ≡ counts.printed + words_printed cs line d
  pub links : counts'.links ≡ counts.links + links_set d
  pub spares : counts'.spares ≡ counts.spares + spares_set d
  pub fields : counts'.fields ≡ counts.fields + fields_set d
  pub modulus : counts'.modulus ≡ modulus_after d counts.modulus
  pub ordered : counts'.ordered ≡ counts.ordered + numbers_ordered d

-- counts within their limits
pub record AreFew (counts : Counts) (lines : ℕ) : Type 0 where
  pub ranks : counts.ranks ≤ rank_limit
  pub matrices : counts.matrices ≤ matrix_limit
  pub dropped : counts.dropped ≤ lines
  pub lists : counts.lists ≤ lines
  pub dropped_lists : counts.dropped_lists ≤ lines
  pub links : counts.links ≤ 1
  pub spares : counts.spares ≤ 1
  pub fields : counts.fields ≤ 1
  pub ordered : counts.ordered ≤ orders_limit
  pub printed : counts.printed ≤ printed_limit

-- one more command
pub AreCounts-next : (counts counts' : Counts) (lines line : ℕ) (cs : List Numbered) (d : Command) → AreCounts counts lines cs → Adds counts counts' cs line d → AreFew counts' line →
    AreCounts counts' line (cs ++ record { line = line; command = d } ∷ [])
AreCounts-next counts counts' lines line cs d h adds few =
    let n : Numbered = record { line = line; command = d } in
    record {
      ranks = adds.ranks ∙ ap (λ k. k + ranks_made d) h.ranks ∙ sym (total-append (λ before n. ranks_made n.command) cs n);
      matrices = adds.matrices ∙ ap (λ k. k + matrices_made d) h.matrices ∙ sym (total-append (λ before n. matrices_made n.command) cs n);
      dropped = adds.dropped ∙ ap (λ k. k + matrices_dropped cs line d) h.dropped ∙ sym (total-append (λ before n. matrices_dropped before n.line n.command) cs n);
      lists = adds.lists ∙ ap (λ k. k + lists_made d) h.lists ∙ sym (total-append (λ before n. lists_made n.command) cs n);
      dropped_lists = adds.dropped_lists ∙ ap (λ k. k + lists_dropped cs line d) h.dropped_lists ∙ sym (total-append (λ before n. lists_dropped before n.line n.command) cs n);
      printed = adds.printed ∙ ap (λ k. k + words_printed cs line d) h.printed ∙ sym (total-append (λ before n. words_printed before n.line n.command) cs n);
      links = adds.links ∙ ap (λ k. k + links_set d) h.links ∙ sym (total-append (λ before n. links_set n.command) cs n);
      spares = adds.spares ∙ ap (λ k. k + spares_set d) h.spares ∙ sym (total-append (λ before n. spares_set n.command) cs n);
      fields = adds.fields ∙ ap (λ k. k + fields_set d) h.fields ∙ sym (total-append (λ before n. fields_set n.command) cs n);
      modulus = adds.modulus ∙ ap (modulus_after d) h.modulus ∙ sym (modulus_from-append 65537 cs n);
      ordered = adds.ordered ∙ ap (λ k. k + numbers_ordered d) h.ordered ∙ sym (total-append (λ before n. numbers_ordered n.command) cs n);
      few_ranks = few.ranks;
      few_matrices = few.matrices;
      few_dropped = few.dropped;
      few_lists = few.lists;
      few_dropped_lists = few.dropped_lists;
      few_links = few.links;
      few_spares = few.spares;
      few_fields = few.fields;
      few_ordered = few.ordered;
      few_printed = few.printed;
    }

-- a line that counts nothing
pub AreCounts-more : (counts : Counts) (lines more : ℕ) (cs : List Numbered) → AreCounts counts lines cs → lines ≤ more → AreCounts counts more cs
AreCounts-more counts lines more cs h le = record {
  ranks = h.ranks;
  matrices = h.matrices;
  dropped = h.dropped;
  lists = h.lists;
  dropped_lists = h.dropped_lists;
  printed = h.printed;
  links = h.links;
  spares = h.spares;
  fields = h.fields;
  modulus = h.modulus;
  ordered = h.ordered;
  few_ranks = h.few_ranks;
  few_matrices = h.few_matrices;
  few_dropped = omega (arith, h.few_dropped);
  few_lists = omega (arith, h.few_lists);
  few_dropped_lists = omega (arith, h.few_dropped_lists);
  few_links = h.few_links;
  few_spares = h.few_spares;
  few_fields = h.few_fields;
  few_ordered = h.few_ordered;
  few_printed = h.few_printed;
}

few_of : (counts : Counts) (lines line : ℕ) (cs : List Numbered) → AreCounts counts lines cs → line ≡ suc lines → AreFew counts line
few_of counts lines line cs h next = record {
  ranks = h.few_ranks;
  matrices = h.few_matrices;
  dropped = omega (arith, h.few_dropped);
  lists = omega (arith, h.few_lists);
  dropped_lists = omega (arith, h.few_dropped_lists);
  links = h.few_links;
  spares = h.few_spares;
  fields = h.few_fields;
  ordered = h.few_ordered;
  printed = h.few_printed;
}

-- a command that counts nothing
pub record CountsNothing (cs : List Numbered) (line : ℕ) (d : Command) : Type 0 where
  pub ranks : ranks_made d ≡ 0
  pub matrices : matrices_made d ≡ 0
  pub dropped : matrices_dropped cs line d ≡ 0
  pub lists : lists_made d ≡ 0
  pub dropped_lists : lists_dropped cs line d ≡ 0
  pub printed : words_printed cs line d ≡ 0
  pub links : links_set d ≡ 0
  pub spares : spares_set d ≡ 0
  pub fields : fields_set d ≡ 0
  pub modulus : (before : ℕ) → modulus_after d before ≡ before
  pub ordered : numbers_ordered d ≡ 0

adds_nothing : (counts : Counts) (cs : List Numbered) (line : ℕ) (d : Command) → CountsNothing cs line d → Adds counts counts cs line d
adds_nothing counts cs line d h = record {
  ranks = omega (arith, h.ranks);
  matrices = omega (arith, h.matrices);
  dropped = omega (arith, h.dropped);
  lists = omega (arith, h.lists);
  dropped_lists = omega (arith, h.dropped_lists);
  printed = omega (arith, h.printed);
  links = omega (arith, h.links);
  spares = omega (arith, h.spares);
  fields = omega (arith, h.fields);
  modulus = sym (h.modulus counts.modulus);
  ordered = omega (arith, h.ordered);
}

pub AreCounts-same : (counts : Counts) (lines line : ℕ) (cs : List Numbered) (d : Command) → AreCounts counts lines cs → line ≡ suc lines → CountsNothing cs line d →
    AreCounts counts line (cs ++ record { line = line; command = d } ∷ [])
AreCounts-same counts lines line cs d h next none = AreCounts-next counts counts lines line cs d h (adds_nothing counts cs line d none) (few_of counts lines line cs h next)

pub CountsNothing-from_others : (cs : List Numbered) (line : ℕ) (d : Command) → ((n : List ℕ) (p q f : ℕ) → d ≡ c.Grid n p q f → ⊥) →
    ((n g : List ℕ) (m k mb nb rsrc csrc : ℕ) (file : List ℕ) → d ≡ c.Matrix n g m k mb nb rsrc csrc file → ⊥) → ((m n : ℕ) (a : List ℕ) (ia ja : ℕ) (v : List ℕ) → d ≡ c.Pgetrf m n a ia ja v → ⊥) →
    ((n : List ℕ) → d ≡ c.Print n → ⊥) → ((n : List ℕ) → d ≡ c.Discard n → ⊥) → ((n : ℕ) → d ≡ c.Links n → ⊥) → ((n : ℕ) → d ≡ c.Spares n → ⊥) → ((numbers : List ℕ) → d ≡ c.Order numbers → ⊥)
    → ((n : ℕ) → d ≡ c.Field n → ⊥) → CountsNothing cs line d
CountsNothing-from_others cs line (c.Grid n p q f) grid matrix list print discard links spares order field = absurd (grid n p q f refl)
CountsNothing-from_others cs line (c.Matrix n g m k mb nb rsrc csrc file) grid matrix list print discard links spares order field = absurd (matrix n g m k mb nb rsrc csrc file refl)
CountsNothing-from_others cs line (c.Pgetrf m n a ia ja v) grid matrix list print discard links spares order field = absurd (list m n a ia ja v refl)
CountsNothing-from_others cs line (c.Print n) grid matrix list print discard links spares order field = absurd (print n refl)
CountsNothing-from_others cs line (c.Discard n) grid matrix list print discard links spares order field = absurd (discard n refl)
CountsNothing-from_others cs line (c.Links n) grid matrix list print discard links spares order field = absurd (links n refl)
CountsNothing-from_others cs line (c.Spares n) grid matrix list print discard links spares order field = absurd (spares n refl)
CountsNothing-from_others cs line (c.Order numbers) grid matrix list print discard links spares order field = absurd (order numbers refl)
CountsNothing-from_others cs line (c.Field n) grid matrix list print discard links spares order field = absurd (field n refl)
CountsNothing-from_others cs line d grid matrix list print discard links spares order field =
    record { ranks = refl; matrices = refl; dropped = refl; lists = refl; dropped_lists = refl; printed = refl; links = refl; spares = refl; fields = refl; modulus = λ before. refl; ordered = refl }

and_right : (a b : Bool) → (a && b) ≡ true → b ≡ true
and_right true b e = e
and_right false b e = absurd cc

plus_none : (n : ℕ) (b : Bool) → b ≡ false → n ≡ n + cond b 1 0
plus_none n true e = absurd cc
plus_none n false e = omega arith

-- ---- the commands that count something, each where it breaks no rule of its own

abbrev pub KeepsOwn : Told → List Numbered → ℕ → Command → Type 0
KeepsOwn told cs line d = first_code (own_rules told cs line d) ≡ None

-- the counts with this command on a line
abbrev pub CountWith : Counts → List Numbered → ℕ → Command → Type 0
CountWith counts cs line d = AreCounts counts line (cs ++ record { line = line; command = d } ∷ [])

grid_ranks : (told : Told) (counts : Counts) (lines line : ℕ) (cs : List Numbered) (name : List ℕ) (p q f : ℕ) → AreCounts counts lines cs → KeepsOwn told cs line (c.Grid name p q f) → counts.ranks + p * (q + f) ≤ rank_limit
grid_ranks told counts lines line cs name p q f h kept =
    let few = leb-true (ranks_of cs + p * (q + f)) rank_limit (all_kept (grid_rules (ranks_of cs) p q f) kept).1.0 in
    subst (λ k. k + p * (q + f) ≤ rank_limit) (sym h.ranks) few

pub counts_grid : (told : Told) (counts : Counts) (lines line : ℕ) (cs : List Numbered) (d : Command) (name : List ℕ) (p q f : ℕ) → d ≡ c.Grid name p q f → AreCounts counts lines cs → line ≡ suc lines → KeepsOwn told cs line d →
    CountWith (record counts { ranks = counts.ranks + p * (q + f) }) cs line d
counts_grid told counts lines line cs d name p q f e h next kept =
    let known = c.Grid name p q f in
    let few = few_of counts lines line cs h next in
    subst (CountWith (record counts { ranks = counts.ranks + p * (q + f) }) cs line) (sym e)
    (AreCounts-next counts (record counts { ranks = counts.ranks + p * (q + f) }) lines line cs known h
    (record { ranks = refl; matrices = omega arith; dropped = omega arith; lists = omega arith; dropped_lists = omega arith; printed = omega arith; links = omega arith; spares = omega arith; fields = omega arith; modulus = refl; ordered = omega arith })
    (record {
      ranks = grid_ranks told counts lines line cs name p q f h (subst (KeepsOwn told cs line) e kept);
      matrices = few.matrices;
      dropped = few.dropped;
      lists = few.lists;
      dropped_lists = few.dropped_lists;
      links = few.links;
      spares = few.spares;
      fields = few.fields;
      ordered = few.ordered;
      printed = few.printed;
    }))

matrix_few : (told : Told) (counts : Counts) (lines line : ℕ) (cs : List Numbered) (name grid : List ℕ) (m n mb nb rsrc csrc : ℕ) (file : List ℕ) → AreCounts counts lines cs →
    KeepsOwn told cs line (c.Matrix name grid m n mb nb rsrc csrc file) → counts.matrices + 1 ≤ matrix_limit
matrix_few told counts lines line cs name grid m n mb nb rsrc csrc file h kept =
    let p = process_rows (maker_command cs line grid) in
    let q = process_columns (maker_command cs line grid) in
    let rules = all_kept (matrix_rules (live_matrices cs) (matrix_lines cs) p q m n mb nb rsrc csrc) kept in
    let few = ltb-true (matrix_lines cs) matrix_limit (and_right (ltb (live_matrices cs) live_limit) (ltb (matrix_lines cs) matrix_limit) rules.1.1.1.1.1.1.0) in
    omega (arith, few, h.matrices)

pub counts_matrix : (told : Told) (counts : Counts) (lines line : ℕ) (cs : List Numbered) (d : Command) (name grid : List ℕ) (m n mb nb rsrc csrc : ℕ) (file : List ℕ) → d ≡ c.Matrix name grid m n mb nb rsrc csrc file → AreCounts counts lines cs → line ≡ suc lines → KeepsOwn told cs line d →
    CountWith (record counts { matrices = counts.matrices + 1 }) cs line d
counts_matrix told counts lines line cs d name grid m n mb nb rsrc csrc file e h next kept =
    let known = c.Matrix name grid m n mb nb rsrc csrc file in
    let few = few_of counts lines line cs h next in
    subst (CountWith (record counts { matrices = counts.matrices + 1 }) cs line) (sym e)
    (AreCounts-next counts (record counts { matrices = counts.matrices + 1 }) lines line cs known h
    (record { ranks = omega arith; matrices = refl; dropped = omega arith; lists = omega arith; dropped_lists = omega arith; printed = omega arith; links = omega arith; spares = omega arith; fields = omega arith; modulus = refl; ordered = omega arith })
    (record {
      ranks = few.ranks;
      matrices = matrix_few told counts lines line cs name grid m n mb nb rsrc csrc file h (subst (KeepsOwn told cs line) e kept);
      dropped = few.dropped;
      lists = few.lists;
      dropped_lists = few.dropped_lists;
      links = few.links;
      spares = few.spares;
      fields = few.fields;
      ordered = few.ordered;
      printed = few.printed;
    }))

pub counts_list : (told : Told) (counts : Counts) (lines line : ℕ) (cs : List Numbered) (d : Command) (m n : ℕ) (a : List ℕ) (ia ja : ℕ) (v : List ℕ) → d ≡ c.Pgetrf m n a ia ja v → AreCounts counts lines cs → line ≡ suc lines → KeepsOwn told cs line d →
    CountWith (record counts { lists = counts.lists + 1 }) cs line d
counts_list told counts lines line cs d m n a ia ja v e h next kept =
    let known = c.Pgetrf m n a ia ja v in
    let few = few_of counts lines line cs h next in
    subst (CountWith (record counts { lists = counts.lists + 1 }) cs line) (sym e)
    (AreCounts-next counts (record counts { lists = counts.lists + 1 }) lines line cs known h
    (record { ranks = omega arith; matrices = omega arith; dropped = omega arith; lists = refl; dropped_lists = omega arith; printed = omega arith; links = omega arith; spares = omega arith; fields = omega arith; modulus = refl; ordered = omega arith })
    (record {
      ranks = few.ranks;
      matrices = few.matrices;
      dropped = few.dropped;
      lists = omega (arith, h.few_lists);
      dropped_lists = few.dropped_lists;
      links = few.links;
      spares = few.spares;
      fields = few.fields;
      ordered = few.ordered;
      printed = few.printed;
    }))

print_few : (told : Told) (counts : Counts) (lines line : ℕ) (cs : List Numbered) (name : List ℕ) → AreCounts counts lines cs → KeepsOwn told cs line (c.Print name) → counts.printed + words_printed cs line (c.Print name) ≤ printed_limit
print_few told counts lines line cs name h kept =
    let words = matrix_words (maker_command cs line name) in
    let few = leb-true (printed_words cs + words) printed_limit (all_kept (print_rules (printed_words cs) words) kept).0 in
    subst (λ k. k + words ≤ printed_limit) (sym h.printed) few

pub counts_print : (told : Told) (counts : Counts) (lines line : ℕ) (cs : List Numbered) (d : Command) (name : List ℕ) → d ≡ c.Print name → AreCounts counts lines cs → line ≡ suc lines → KeepsOwn told cs line d →
    CountWith (record counts { printed = counts.printed + words_printed cs line (c.Print name) }) cs line d
counts_print told counts lines line cs d name e h next kept =
    let known = c.Print name in
    let few = few_of counts lines line cs h next in
    subst (CountWith (record counts { printed = counts.printed + words_printed cs line (c.Print name) }) cs line) (sym e)
    (AreCounts-next counts (record counts { printed = counts.printed + words_printed cs line (c.Print name) }) lines line cs known h
    (record { ranks = omega arith; matrices = omega arith; dropped = omega arith; lists = omega arith; dropped_lists = omega arith; printed = refl; links = omega arith; spares = omega arith; fields = omega arith; modulus = refl; ordered = omega arith })
    (record {
      ranks = few.ranks;
      matrices = few.matrices;
      dropped = few.dropped;
      lists = few.lists;
      dropped_lists = few.dropped_lists;
      links = few.links;
      spares = few.spares;
      fields = few.fields;
      ordered = few.ordered;
      printed = print_few told counts lines line cs name h (subst (KeepsOwn told cs line) e kept);
    }))

links_few : (told : Told) (counts : Counts) (lines line : ℕ) (cs : List Numbered) (n : ℕ) → AreCounts counts lines cs → KeepsOwn told cs line (c.Links n) → counts.links + 1 ≤ 1
links_few told counts lines line cs n h kept =
    let none = eqb-true (link_lines cs) 0 (all_kept (links_rules (link_lines cs) n) kept).1.0 in
    omega (arith, none, h.links)

pub counts_links : (told : Told) (counts : Counts) (lines line : ℕ) (cs : List Numbered) (d : Command) (n : ℕ) → d ≡ c.Links n → AreCounts counts lines cs → line ≡ suc lines → KeepsOwn told cs line d →
    CountWith (record counts { links = counts.links + 1 }) cs line d
counts_links told counts lines line cs d n e h next kept =
    let known = c.Links n in
    let few = few_of counts lines line cs h next in
    subst (CountWith (record counts { links = counts.links + 1 }) cs line) (sym e)
    (AreCounts-next counts (record counts { links = counts.links + 1 }) lines line cs known h
    (record { ranks = omega arith; matrices = omega arith; dropped = omega arith; lists = omega arith; dropped_lists = omega arith; printed = omega arith; links = refl; spares = omega arith; fields = omega arith; modulus = refl; ordered = omega arith })
    (record {
      ranks = few.ranks;
      matrices = few.matrices;
      dropped = few.dropped;
      lists = few.lists;
      dropped_lists = few.dropped_lists;
      links = links_few told counts lines line cs n h (subst (KeepsOwn told cs line) e kept);
      spares = few.spares;
      fields = few.fields;
      ordered = few.ordered;
      printed = few.printed;
    }))

spares_few : (told : Told) (counts : Counts) (lines line : ℕ) (cs : List Numbered) (n : ℕ) → AreCounts counts lines cs → KeepsOwn told cs line (c.Spares n) → counts.spares + 1 ≤ 1
spares_few told counts lines line cs n h kept =
    let none = eqb-true (spares_lines cs) 0 (all_kept (spares_rules (spares_lines cs) n) kept).1.0 in
    omega (arith, none, h.spares)

pub counts_spares : (told : Told) (counts : Counts) (lines line : ℕ) (cs : List Numbered) (d : Command) (n : ℕ) → d ≡ c.Spares n → AreCounts counts lines cs → line ≡ suc lines → KeepsOwn told cs line d →
    CountWith (record counts { spares = counts.spares + 1 }) cs line d
counts_spares told counts lines line cs d n e h next kept =
    let known = c.Spares n in
    let few = few_of counts lines line cs h next in
    subst (CountWith (record counts { spares = counts.spares + 1 }) cs line) (sym e)
    (AreCounts-next counts (record counts { spares = counts.spares + 1 }) lines line cs known h
    (record { ranks = omega arith; matrices = omega arith; dropped = omega arith; lists = omega arith; dropped_lists = omega arith; printed = omega arith; links = omega arith; spares = refl; fields = omega arith; modulus = refl; ordered = omega arith })
    (record {
      ranks = few.ranks;
      matrices = few.matrices;
      dropped = few.dropped;
      lists = few.lists;
      dropped_lists = few.dropped_lists;
      links = few.links;
      spares = spares_few told counts lines line cs n h (subst (KeepsOwn told cs line) e kept);
      fields = few.fields;
      ordered = few.ordered;
      printed = few.printed;
    }))

fields_few : (told : Told) (counts : Counts) (lines line : ℕ) (cs : List Numbered) (n : ℕ) → AreCounts counts lines cs → KeepsOwn told cs line (c.Field n) → counts.fields + 1 ≤ 1
fields_few told counts lines line cs n h kept =
    let none = eqb-true (field_lines cs) 0 (all_kept (field_rules (field_lines cs) (matrix_lines cs) n) kept).1.0 in
    omega (arith, none, h.fields)

pub counts_field : (told : Told) (counts : Counts) (lines line : ℕ) (cs : List Numbered) (d : Command) (n : ℕ) → d ≡ c.Field n → AreCounts counts lines cs → line ≡ suc lines → KeepsOwn told cs line d →
    CountWith (record counts { fields = counts.fields + 1; modulus = n }) cs line d
counts_field told counts lines line cs d n e h next kept =
    let known = c.Field n in
    let few = few_of counts lines line cs h next in
    subst (CountWith (record counts { fields = counts.fields + 1; modulus = n }) cs line) (sym e)
    (AreCounts-next counts (record counts { fields = counts.fields + 1; modulus = n }) lines line cs known h
    (record { ranks = omega arith; matrices = omega arith; dropped = omega arith; lists = omega arith; dropped_lists = omega arith; printed = omega arith; links = omega arith; spares = omega arith; fields = refl; modulus = refl; ordered = omega arith })
    (record {
      ranks = few.ranks;
      matrices = few.matrices;
      dropped = few.dropped;
      lists = few.lists;
      dropped_lists = few.dropped_lists;
      links = few.links;
      spares = few.spares;
      fields = fields_few told counts lines line cs n h (subst (KeepsOwn told cs line) e kept);
      ordered = few.ordered;
      printed = few.printed;
    }))

order_few : (told : Told) (counts : Counts) (lines line : ℕ) (cs : List Numbered) (numbers : List ℕ) → AreCounts counts lines cs → KeepsOwn told cs line (c.Order numbers) → counts.ordered + length numbers ≤ orders_limit
order_few told counts lines line cs numbers h kept =
    let few = leb-true (ordered_numbers cs + length numbers) orders_limit
    (and_right (list_all is_order_number numbers) (leb (ordered_numbers cs + length numbers) orders_limit) (all_kept (order_rules (ordered_numbers cs) numbers) kept).0) in
    subst (λ k. k + length numbers ≤ orders_limit) (sym h.ordered) few

pub counts_order : (told : Told) (counts : Counts) (lines line : ℕ) (cs : List Numbered) (d : Command) (numbers : List ℕ) → d ≡ c.Order numbers → AreCounts counts lines cs → line ≡ suc lines → KeepsOwn told cs line d →
    CountWith (record counts { ordered = counts.ordered + length numbers }) cs line d
counts_order told counts lines line cs d numbers e h next kept =
    let known = c.Order numbers in
    let few = few_of counts lines line cs h next in
    subst (CountWith (record counts { ordered = counts.ordered + length numbers }) cs line) (sym e)
    (AreCounts-next counts (record counts { ordered = counts.ordered + length numbers }) lines line cs known h
    (record { ranks = omega arith; matrices = omega arith; dropped = omega arith; lists = omega arith; dropped_lists = omega arith; printed = omega arith; links = omega arith; spares = omega arith; fields = omega arith; modulus = refl; ordered = refl })
    (record {
      ranks = few.ranks;
      matrices = few.matrices;
      dropped = few.dropped;
      lists = few.lists;
      dropped_lists = few.dropped_lists;
      links = few.links;
      spares = few.spares;
      fields = few.fields;
      ordered = order_few told counts lines line cs numbers h (subst (KeepsOwn told cs line) e kept);
      printed = few.printed;
    }))

-- ---- a `drop` line, by what its name means

-- nothing is a matrix and a pivot list at once
pub not_both : (o : Option Command) → is_matrix_line o ≡ true → is_list_line o ≡ false
not_both (Some (c.Matrix name grid m n mb nb rsrc csrc file)) e = refl
not_both o e = absurd cc

pub counts_dropped_matrix : (counts : Counts) (lines line : ℕ) (cs : List Numbered) (name : List ℕ) → AreCounts counts lines cs → line ≡ suc lines → is_matrix_line (maker_command cs line name) ≡ true →
    CountWith (record counts { dropped = counts.dropped + 1 }) cs line (c.Discard name)
counts_dropped_matrix counts lines line cs name h next t =
    let few = few_of counts lines line cs h next in
    let l = not_both (maker_command cs line name) t in
    AreCounts-next counts (record counts { dropped = counts.dropped + 1 }) lines line cs (c.Discard name) h
    (record {
      ranks = omega arith;
      matrices = omega arith;
      dropped = sym (ap (λ b. counts.dropped + cond b 1 0) t);
      lists = omega arith;
      dropped_lists = plus_none counts.dropped_lists (is_list_line (maker_command cs line name)) l;
      printed = omega arith;
      links = omega arith;
      spares = omega arith;
      fields = omega arith;
      modulus = refl;
      ordered = omega arith;
    })
    (record {
      ranks = few.ranks;
      matrices = few.matrices;
      dropped = omega (arith, h.few_dropped);
      lists = few.lists;
      dropped_lists = few.dropped_lists;
      links = few.links;
      spares = few.spares;
      fields = few.fields;
      ordered = few.ordered;
      printed = few.printed;
    })

pub counts_dropped_list : (counts : Counts) (lines line : ℕ) (cs : List Numbered) (name : List ℕ) → AreCounts counts lines cs → line ≡ suc lines → is_matrix_line (maker_command cs line name) ≡ false →
    is_list_line (maker_command cs line name) ≡ true → CountWith (record counts { dropped_lists = counts.dropped_lists + 1 }) cs line (c.Discard name)
counts_dropped_list counts lines line cs name h next m t =
    let few = few_of counts lines line cs h next in
    AreCounts-next counts (record counts { dropped_lists = counts.dropped_lists + 1 }) lines line cs (c.Discard name) h
    (record {
      ranks = omega arith;
      matrices = omega arith;
      dropped = plus_none counts.dropped (is_matrix_line (maker_command cs line name)) m;
      lists = omega arith;
      dropped_lists = sym (ap (λ b. counts.dropped_lists + cond b 1 0) t);
      printed = omega arith;
      links = omega arith;
      spares = omega arith;
      fields = omega arith;
      modulus = refl;
      ordered = omega arith;
    })
    (record {
      ranks = few.ranks;
      matrices = few.matrices;
      dropped = few.dropped;
      lists = few.lists;
      dropped_lists = omega (arith, h.few_dropped_lists);
      links = few.links;
      spares = few.spares;
      fields = few.fields;
      ordered = few.ordered;
      printed = few.printed;
    })

pub counts_dropped_none : (counts : Counts) (lines line : ℕ) (cs : List Numbered) (name : List ℕ) → AreCounts counts lines cs → line ≡ suc lines → is_matrix_line (maker_command cs line name) ≡ false →
    is_list_line (maker_command cs line name) ≡ false → CountWith counts cs line (c.Discard name)
counts_dropped_none counts lines line cs name h next m l =
    AreCounts-same counts lines line cs (c.Discard name) h next (record {
      ranks = refl;
      matrices = refl;
      dropped = ap (λ b. cond b 1 0) m;
      lists = refl;
      dropped_lists = ap (λ b. cond b 1 0) l;
      printed = refl;
      links = refl;
      spares = refl;
      fields = refl;
      modulus = λ before. refl;
      ordered = refl;
    })

-- ---- the commands of lines

-- the commands of one part of the lines after those of another
pub commands_from-append : (k : ℕ) (xs ys : List (Option Command)) → commands_from k (xs ++ ys) ≡ commands_from k xs ++ commands_from (k + length xs) ys
commands_from-append k [] ys = ap (λ n. commands_from n ys) (omega arith)
commands_from-append k (None ∷ xs) ys = commands_from-append (suc k) xs ys ∙ ap (λ n. commands_from (suc k) xs ++ commands_from n ys) (omega arith)
commands_from-append k (Some d ∷ xs) ys =
    ap (λ ns. record { line = k; command = d } ∷ ns) (commands_from-append (suc k) xs ys ∙ ap (λ n. commands_from (suc k) xs ++ commands_from n ys) (omega arith))

pub commands_of-none : (xs : List (Option Command)) → commands_of (xs ++ None ∷ []) ≡ commands_of xs
commands_of-none xs = commands_from-append 1 xs (None ∷ []) ∙ append-nil (commands_of xs)

pub commands_of-some : (xs : List (Option Command)) (line : ℕ) (d : Command) → line ≡ suc (length xs) → commands_of (xs ++ Some d ∷ []) ≡ commands_of xs ++ record { line = line; command = d } ∷ []
commands_of-some xs line d e =
    commands_from-append 1 xs (Some d ∷ []) ∙ ap (λ n. commands_of xs ++ record { line = n; command = d } ∷ []) (let k : 1 + length xs ≡ line = omega arith in k)
