use Rattle.std.proofs.Common.{◌<◌, List, length, map, sym, ap, ◌∙◌, subst, arith}
use Rattle.std.specs.List.{AllByRecursion}
use Rattle.std.proofs.lemmas.List.{length-map}
use Rattle.indus_tree.specs.View.{decl_of}
use Rattle.indus_values.specs.View.{contents_from}
use Rattle.p4_tree.specs.View.{program_of}
use Rattle.p4_meaning.specs.Parts.{parts_of}
use Rattle.p4_tables.specs.Named.{tables_in}
use Rattle.control_maps.specs.Numbers.{Numbered, load_in, IsMapOf}
use Rattle.set_contents.specs.Maps.{map_of}
use Rattle.path_runner.specs.Starts.{IsLoaded}
use Rattle.loaded_tables.specs.Loading.{carried_entries, keys_in, switch_before}
use Rattle.loaded_tables.specs.Steps.{AreEmpty}
use Rattle.loaded_tables.proofs.Started.{map_before, empty_before, declared_before}
use Rattle.loaded_tables.proofs.Named.{map_then, is_loaded, is_own}
use Rattle.loaded_tables.proofs.first_tables.loaded.Goals as goal

pub load-requires-clause-empty : goal.load-requires-clause-empty
load-requires-clause-empty c =
    let p = program_of c.args.program.now in
    let ds = map decl_of c.args.decls.now in
    let now = c.in_ok-tables.tables in
    subst (AreEmpty now) (sym (ap map_of c.deref.ensures.value ∙ c.in_ok-mapped.ensures))
    (empty_before (program_of c.args.given.now) p c.args.held.now now ds c.in_ok-tables.ensures.refilled c.args.rows.now.tables.items c.in_ok-tables.ensures.state.same c.requires.map c.requires.new)

pub load-requires-clause-declared : goal.load-requires-clause-declared
load-requires-clause-declared c =
    let ds = map decl_of c.args.decls.now in
    subst (λ (ns : List Numbered). AllByRecursion (λ (n : Numbered). n.variable < length c.args.decls.now) ns) (sym (ap map_of c.deref.ensures.value ∙ c.in_ok-mapped.ensures))
    (declared_before (program_of c.args.program.now) ds (length c.args.decls.now) c.args.rows.now.tables.items (length-map c.args.decls.now decl_of) c.requires.map.declared)

pub returns-clause-mapped : goal.returns-clause-mapped
returns-clause-mapped c =
    let g = program_of c.args.given.now in
    let p = program_of c.args.program.now in
    let ds = map decl_of c.args.decls.now in
    let rows = c.args.rows.now.tables.items in
    let contents = contents_from ds c.args.contents.now in
    let now = c.in_ok-tables.tables in
    let map_now = map_before g p c.args.held.now now ds c.in_ok-tables.ensures.refilled rows c.in_ok-tables.ensures.state.same c.requires.map c.requires.new in
    let is = c.in_ok-load.ensures.tables ∙ ap (λ (ns : List Numbered). load_in ns contents now) (ap map_of c.deref.ensures.value ∙ c.in_ok-mapped.ensures) in
    subst (IsMapOf (parts_of p) c.load.new.tables) (sym c.in_ok-mapped.ensures)
    (map_then g p c.args.held.now c.requires.stands ds rows contents now c.load.new.tables map_now c.in_ok-tables.ensures.held c.requires.taken.shapes is)

pub returns-clause-loaded : goal.returns-clause-loaded
returns-clause-loaded c =
    let g = program_of c.args.given.now in
    let p = program_of c.args.program.now in
    let ds = map decl_of c.args.decls.now in
    let rows = c.args.rows.now.tables.items in
    let contents = contents_from ds c.args.contents.now in
    let now = c.in_ok-tables.tables in
    let map_now = map_before g p c.args.held.now now ds c.in_ok-tables.ensures.refilled rows c.in_ok-tables.ensures.state.same c.requires.map c.requires.new in
    let is = c.in_ok-load.ensures.tables ∙ ap (λ (ns : List Numbered). load_in ns contents now) (ap map_of c.deref.ensures.value ∙ c.in_ok-mapped.ensures) in
    subst (λ (ns : List Numbered). IsLoaded (switch_before p c.load.new.tables) ns (carried_entries g c.args.held.now p) contents) (sym c.in_ok-mapped.ensures)
    (is_loaded g p c.args.held.now c.requires.stands ds rows contents now c.load.new.tables map_now c.in_ok-tables.ensures.held c.requires.taken.shapes is)

pub returns-clause-own : goal.returns-clause-own
returns-clause-own c = λ adds.
    let g = program_of c.args.given.now in
    let p = program_of c.args.program.now in
    let ds = map decl_of c.args.decls.now in
    let rows = c.args.rows.now.tables.items in
    let contents = contents_from ds c.args.contents.now in
    let now = c.in_ok-tables.tables in
    let map_now = map_before g p c.args.held.now now ds c.in_ok-tables.ensures.refilled rows c.in_ok-tables.ensures.state.same c.requires.map c.requires.new in
    let is = c.in_ok-load.ensures.tables ∙ ap (λ (ns : List Numbered). load_in ns contents now) (ap map_of c.deref.ensures.value ∙ c.in_ok-mapped.ensures) in
    subst (λ (ns : List Numbered). IsLoaded (switch_before p c.load.new.tables) ns (tables_in (parts_of g) c.args.held.now) contents) (sym c.in_ok-mapped.ensures)
    (is_own g p c.args.held.now c.requires.stands ds rows contents now c.load.new.tables map_now c.in_ok-tables.ensures.held c.requires.taken.shapes is adds)

pub returns-clause-entries : goal.returns-clause-entries
returns-clause-entries c =
    let ds = map decl_of c.args.decls.now in
    let contents = contents_from ds c.args.contents.now in
    let carried = c.in_ok-tables.ensures.few in
    let more = c.in_ok-load.ensures.entries in
    let same = ap (λ (ns : List Numbered). keys_in ns contents) (ap map_of c.deref.ensures.value ∙ c.in_ok-mapped.ensures) in
    omega (arith, carried, more, same)
