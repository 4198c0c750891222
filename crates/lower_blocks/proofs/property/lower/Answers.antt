use Rattle.std.proofs.Common.{◌≡◌, codes, ℕ, List, [], ◌∷◌, ◌++◌, map, Option, refl, sym, ap, ap₂, ◌∙◌}
use Rattle.indus_tree.specs.Tree as Tree
use Rattle.indus_tree.specs.Tree.{block_from}
use Rattle.indus_tree.specs.View.{block_of, decl_of, property_of}
use Rattle.indus_tree.specs.declared.tree.Decl.{Decl}
use Rattle.indus_tree.specs.declared.tree.Property.{Property}
use Rattle.p4_tree.specs.Tree as p4
use Rattle.p4_tree.specs.View.{local_of}
use Rattle.p4_tree.specs.declared.program.Local.{Local}
use Rattle.flat_laws.specs.Numbered.{numbered}
use Rattle.monitor_laws.specs.Telemetry.{mark_field}
use Rattle.lowered_code.specs.Statements.{vars_in, lookups_in, block_code, block_numbers}
use Rattle.whole_properties.specs.Whole.{decls, init, tele, check, tele_first, check_first, tele_fields, fill_fields, tele_room}
use Rattle.lower_blocks.specs.Results.{given_of, lowered_of}
use Rattle.lower_blocks.specs.Trees.{checks_of, field_tree, locals_for, lowered_trees, mapped, registers_of}
use Rattle.lower_reads.specs.View.{declared, reads_of}
use Rattle.lower_code.specs.View.{environment_of}
use Rattle.lower_reads.specs.declared.numbers.Read.{Read}
use Rattle.lower_code.proofs.Blocks.{block_is}
use Rattle.lower_blocks.proofs.Whole.{code_same, end_same, exit_joined, lookups_both, lowered_is, no_rows, numbers_same}
use Rattle.lower_blocks.proofs.Widths.{bytes_are}
use Rattle.lower_blocks.proofs.property.lower.Goals as goal

pub tops-requires : goal.tops-requires
tops-requires c =
    let p = property_of c.args.p.now in
    let g = given_of p c.args.ingress.now c.args.egress.now in
    let d = declared c.in_ok-decls.decls in
    let given = c.deref.ensures.value ∙ ap (λ (q : Property). q.decls.items) c.property.ensures.same in
    let ds : d ≡ decls g = c.in_ok-decls.ensures ∙ ap (λ (xs : List Decl). numbered (map decl_of xs)) given in
    c.requires.layout.bytes ∙ bytes_are p ∙ ap (λ (xs : List Tree.Decl). tele_room (tele_fields xs)) (sym ds)

pub returns-clause-trees : goal.returns-clause-trees
returns-clause-trees c =
    let p = property_of c.args.p.now in
    let g = given_of p c.args.ingress.now c.args.egress.now in
    let d = declared c.in_ok-decls.decls in
    let given = c.deref.ensures.value ∙ ap (λ (q : Property). q.decls.items) c.property.ensures.same in
    let ds : d ≡ decls g = c.in_ok-decls.ensures ∙ ap (λ (xs : List Decl). numbered (map decl_of xs)) given in
    let b1 : block_of c.deref-2.result.now ≡ init g = ap block_of c.deref-2.ensures.value ∙ ap block_from c.requires.flat.init in
    let b2 : block_of c.deref-3.result.now ≡ tele g = ap block_of c.deref-3.ensures.value ∙ ap block_from c.requires.flat.tele in
    let b3 : block_of c.deref-4.result.now ≡ check g = ap block_of c.deref-4.ensures.value ∙ ap block_from c.requires.flat.check in
    let first : c.in_ok-tele_first.tele_first ≡ tele_first g = c.in_ok-tele_first.ensures.end ∙ end_same _ _ _ _ 0 0 ds b1 refl in
    let second : c.in_ok-check_first.check_first ≡ check_first g = c.in_ok-check_first.ensures.end ∙ end_same _ _ _ _ _ _ ds b2 first in
    let rs = block_numbers (decls g) (tele g) (tele_first g) in
    let qs = block_numbers (decls g) (check g) (check_first g) in
    let entry_reads : reads_of c.block_numbers.new.out.items ≡ block_numbers (decls g) (init g) 0 =
    c.in_ok-tele_first.ensures.numbers ∙ ap (λ (xs : List Read). reads_of xs ++ block_numbers d (block_of c.deref-2.result.now) 0) c.new-first.ensures.items ∙ numbers_same _ _ _ _ 0 0 ds b1 refl in
    let tele_reads : reads_of c.block_numbers-2.new.out.items ≡ rs =
    c.in_ok-check_first.ensures.numbers ∙ ap (λ (xs : List Read). reads_of xs ++ block_numbers d (block_of c.deref-3.result.now) c.in_ok-tele_first.tele_first) c.new-second.ensures.items ∙ numbers_same _ _ _ _ _ _ ds b2 first in
    let exit_reads : reads_of c.block_numbers-3.new.out.items ≡ rs ++ qs =
    c.in_ok-block_numbers.ensures.numbers ∙ ap₂ (λ (xs ys : List (ℕ × Option Tree.Decl)). xs ++ ys) tele_reads (numbers_same _ _ _ _ _ _ ds b3 second) in
    let a = environment_of c.args.ingress.now in
    let b = environment_of c.args.egress.now in
    let registers = c.deref-12.ensures.value ∙ ap (λ (q : Property). q.decls.items) c.property.ensures.same in
    let tele_code = c.in_ok-exit.ensures.stmts ∙ code_same _ _ _ _ _ _ ds (ap block_of c.deref-10.ensures.value ∙ ap block_from c.requires.flat.tele) first b in
    let check_code = c.in_ok-check.ensures.stmts ∙ code_same _ _ _ _ _ _ ds (ap block_of c.deref-11.ensures.value ∙ ap block_from c.requires.flat.check) second b in
    let local_reads = ap reads_of c.deref-5.ensures.value ∙ entry_reads in
    let local_exits = ap reads_of c.deref-6.ensures.value ∙ exit_reads in
    lowered_is _ (lowered_trees g a b)
    (c.in_ok-tops.ensures
    ∙ (λ j. p4.header_type 0 (codes "hydra_tele_t") (map field_tree (mark_field ∷ (tele_fields (ds j) ++ fill_fields (tele_fields (ds j))))) ∷ registers_of (map decl_of (registers j))))
    (c.in_ok-locals.ensures
    ∙ ap (λ (xs : List Local). map local_of xs ++ locals_for (vars_in (reads_of c.deref-5.result.now)) (lookups_in (reads_of c.deref-5.result.now))) c.new-entry_locals.ensures.items
    ∙ ap (λ (r : List (ℕ × Option Tree.Decl)). locals_for (vars_in r) (lookups_in r)) local_reads)
    (c.in_ok-locals-2.ensures
    ∙ ap₂ (λ (ls : List p4.Local) (r : List (ℕ × Option Tree.Decl)). ls ++ locals_for (vars_in r) (lookups_in r)) c.in_ok-exit_locals.ensures local_exits
    ∙ exit_joined rs qs)
    (c.in_ok-entry.ensures.stmts ∙ code_same _ _ _ _ 0 0 ds (ap block_of c.deref-9.ensures.value ∙ ap block_from c.requires.flat.init) refl a)
    (block_is c.push.new.self.items c.in_ok-exit.field-0.stmts.items (c.in_ok-checker.field-0 ∷ []) (block_code b (decls g) (tele g) (tele_first g)) (p4.next (checks_of (block_code b (decls g) (check g) (check_first g))) p4.done)
    c.in_ok-push.ensures.items tele_code (ap (λ (s : p4.Stmt). p4.next s p4.done) (c.in_ok-checker.ensures ∙ ap checks_of check_code)))

pub returns-clause-map : goal.returns-clause-map
returns-clause-map c =
    let p = property_of c.args.p.now in
    let g = given_of p c.args.ingress.now c.args.egress.now in
    let d = declared c.in_ok-decls.decls in
    let given = c.deref.ensures.value ∙ ap (λ (q : Property). q.decls.items) c.property.ensures.same in
    let ds : d ≡ decls g = c.in_ok-decls.ensures ∙ ap (λ (xs : List Decl). numbered (map decl_of xs)) given in
    let b1 : block_of c.deref-2.result.now ≡ init g = ap block_of c.deref-2.ensures.value ∙ ap block_from c.requires.flat.init in
    let b2 : block_of c.deref-3.result.now ≡ tele g = ap block_of c.deref-3.ensures.value ∙ ap block_from c.requires.flat.tele in
    let b3 : block_of c.deref-4.result.now ≡ check g = ap block_of c.deref-4.ensures.value ∙ ap block_from c.requires.flat.check in
    let first : c.in_ok-tele_first.tele_first ≡ tele_first g = c.in_ok-tele_first.ensures.end ∙ end_same _ _ _ _ 0 0 ds b1 refl in
    let second : c.in_ok-check_first.check_first ≡ check_first g = c.in_ok-check_first.ensures.end ∙ end_same _ _ _ _ _ _ ds b2 first in
    let rs = block_numbers (decls g) (tele g) (tele_first g) in
    let qs = block_numbers (decls g) (check g) (check_first g) in
    let entry_reads : reads_of c.block_numbers.new.out.items ≡ block_numbers (decls g) (init g) 0 =
    c.in_ok-tele_first.ensures.numbers ∙ ap (λ (xs : List Read). reads_of xs ++ block_numbers d (block_of c.deref-2.result.now) 0) c.new-first.ensures.items ∙ numbers_same _ _ _ _ 0 0 ds b1 refl in
    let tele_reads : reads_of c.block_numbers-2.new.out.items ≡ rs =
    c.in_ok-check_first.ensures.numbers ∙ ap (λ (xs : List Read). reads_of xs ++ block_numbers d (block_of c.deref-3.result.now) c.in_ok-tele_first.tele_first) c.new-second.ensures.items ∙ numbers_same _ _ _ _ _ _ ds b2 first in
    let exit_reads : reads_of c.block_numbers-3.new.out.items ≡ rs ++ qs =
    c.in_ok-block_numbers.ensures.numbers ∙ ap₂ (λ (xs ys : List (ℕ × Option Tree.Decl)). xs ++ ys) tele_reads (numbers_same _ _ _ _ _ _ ds b3 second) in
    let ingress = mapped p c.args.ingress.now.control in
    let egress = mapped p c.args.egress.now.control in
    c.in_ok-add_rows-2.ensures
    ∙ ap₂ (λ (xs ys : List (List ℕ × (List ℕ × Option ℕ))). xs ++ ys)
    (c.in_ok-add_rows.ensures
    ∙ ap (λ (xs : List (List ℕ × (List ℕ × Option ℕ))). xs ++ ingress (lookups_in (reads_of c.deref-7.result.now))) (no_rows (record { tables = c.new.result }) c.new.ensures.items)
    ∙ ap (λ (r : List (ℕ × Option Tree.Decl)). ingress (lookups_in r)) (ap reads_of c.deref-7.ensures.value ∙ entry_reads))
    (ap (λ (r : List (ℕ × Option Tree.Decl)). egress (lookups_in r)) (ap reads_of c.deref-8.ensures.value ∙ exit_reads) ∙ ap egress (lookups_both rs qs))
