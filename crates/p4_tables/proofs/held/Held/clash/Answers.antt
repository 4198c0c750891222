use Rattle.std.proofs.Common.{◌≡◌, ◌<◌, ℕ, Bool, Some, None, true, false, map, get_or, sym, ap, ap₂, subst, ◌∙◌}
use Rattle.std.specs.Prelude.{if◌then◌else◌}
use Rattle.std.proofs.lemmas.List.{get_or-map}
use Rattle.table_shapes.specs.Shapes.{has_ternary}
use Rattle.table_entries.specs.Entries.{Entry, same_keys, has_same}
use Rattle.p4_tables.specs.State.{Held}
use Rattle.p4_tables.specs.Faults.{takes_entry}
use Rattle.table_entries.specs.Signs.{signs_of, sign_act}
use Rattle.table_entries.specs.Index.{IsIndex, asks, place_in, has_rank}
use Rattle.p4_tables.specs.Kept.{IsSound}
use Rattle.p4_tables.specs.Indexed.{clash_in}
use Rattle.table_entries.specs.View.{match_of, entry_of, act_of}
use Rattle.table_shapes.specs.View.{shape_of}
use Rattle.table_faults.specs.declared.entry.EntryFault.TheVariants.{SameEntry, SamePriority}
use Rattle.table_entries.proofs.Listed.{no_entry, many_below, long}
use Rattle.table_entries.proofs.Noted.{stands, lent_some, seen_some, some_stands}
use Rattle.p4_tables.proofs.Same.{same_stands, no_clash, clash_there, clash_same}
use Rattle.p4_tables.proofs.held.Held.clash.Goals as goal

pub returns-then-is_some : goal.returns-then-is_some
returns-then-is_some c =
    let inside = c.self.inside in
    let es = map entry_of inside.listed.items in
    let h : Held = record { shape = shape_of inside.shape; listed = es; default = act_of inside.default } in
    let e = entry_of c.args.e.now in
    let sound : IsSound h = subst IsSound (sym c.self.view_is) c.requires.sound in
    let index = subst (IsIndex inside.shape.keys.items (has_ternary inside.shape.keys.items) es) c.in-Signs.is c.self.invariant in
    let taken : takes_entry h.shape e ≡ true = subst (λ (g : Held). takes_entry g.shape e ≡ true) (sym c.self.view_is) c.requires.taken in
    let sign : c.as_slice.result.now ≡ signs_of e.keys = c.as_slice.ensures.value ∙ c.in_ok-sign-in-Signs.ensures ∙ ap (λ l. signs_of (map match_of l)) c.deref.ensures.value in
    let told : c.is_some.result ≡ has_same false es e =
    c.is_some.ensures
    ∙ lent_some c.act.result (sign_act inside.shape.keys.items c.in-Signs.signs (signs_of e.keys)) (c.act.ensures ∙ ap₂ (λ l s. sign_act l c.in-Signs.signs s) c.deref-in-Signs.ensures.value sign)
    ∙ seen_some _ _ (index.1 (signs_of e.keys))
    ∙ some_stands (asks (signs_of e.keys)) es
    ∙ same_stands h.shape es e index.0 sound.taken taken
    in
    ap (λ (b : Bool). if b then Some SameEntry else None) (sym c.if-is_some.true ∙ told)
    ∙ sym (clash_same h e index.0)
    ∙ ap (λ (g : Held). clash_in g e) c.self.view_is

pub returns-in-Signs : goal.returns-in-Signs
returns-in-Signs c =
    let inside = c.self.inside in
    let es = map entry_of inside.listed.items in
    let h : Held = record { shape = shape_of inside.shape; listed = es; default = act_of inside.default } in
    let e = entry_of c.args.e.now in
    let sound : IsSound h = subst IsSound (sym c.self.view_is) c.requires.sound in
    let index = subst (IsIndex inside.shape.keys.items (has_ternary inside.shape.keys.items) es) c.in-Signs.is c.self.invariant in
    let taken : takes_entry h.shape e ≡ true = subst (λ (g : Held). takes_entry g.shape e ≡ true) (sym c.self.view_is) c.requires.taken in
    let sign : c.as_slice.result.now ≡ signs_of e.keys = c.as_slice.ensures.value ∙ c.in_ok-sign-in-Signs.ensures ∙ ap (λ l. signs_of (map match_of l)) c.deref.ensures.value in
    let told : c.is_some.result ≡ has_same false es e =
    c.is_some.ensures
    ∙ lent_some c.act.result (sign_act inside.shape.keys.items c.in-Signs.signs (signs_of e.keys)) (c.act.ensures ∙ ap₂ (λ l s. sign_act l c.in-Signs.signs s) c.deref-in-Signs.ensures.value sign)
    ∙ seen_some _ _ (index.1 (signs_of e.keys))
    ∙ some_stands (asks (signs_of e.keys)) es
    ∙ same_stands h.shape es e index.0 sound.taken taken
    in
    ap (λ (b : Bool). if b then Some SameEntry else None) (sym c.if-is_some.false ∙ told)
    ∙ sym (clash_same h e index.0)
    ∙ ap (λ (g : Held). clash_in g e) c.self.view_is

pub index-requires : goal.index-requires
index-requires c =
    let inside = c.self.inside in
    let es = map entry_of inside.listed.items in
    let index = subst (IsIndex inside.shape.keys.items (has_ternary inside.shape.keys.items) es) c.in-Priorities.is c.self.invariant in
    let there = many_below inside.listed.items c.in-Some.place (stands (has_rank c.args.e.now.priority) es c.in-Some.place no_entry (sym (index.1 c.args.e.now.priority) ∙ sym c.priority_place.ensures ∙ c.in-Some.is)).0 in
    subst (λ (n : ℕ). c.in-Some.place < n) (sym (long inside.listed)) there

pub returns : goal.returns
returns c =
    let inside = c.self.inside in
    let es = map entry_of inside.listed.items in
    let h : Held = record { shape = shape_of inside.shape; listed = es; default = act_of inside.default } in
    let e = entry_of c.args.e.now in
    let sound : IsSound h = subst IsSound (sym c.self.view_is) c.requires.sound in
    let index = subst (IsIndex inside.shape.keys.items (has_ternary inside.shape.keys.items) es) c.in-Priorities.is c.self.invariant in
    sym (no_clash h e index.0 (sym (index.1 e.priority) ∙ sym c.priority_place.ensures ∙ c.in-None.is)) ∙ ap (λ (g : Held). clash_in g e) c.self.view_is

pub returns-then-same_keys : goal.returns-then-same_keys
returns-then-same_keys c =
    let inside = c.self.inside in
    let es = map entry_of inside.listed.items in
    let h : Held = record { shape = shape_of inside.shape; listed = es; default = act_of inside.default } in
    let e = entry_of c.args.e.now in
    let sound : IsSound h = subst IsSound (sym c.self.view_is) c.requires.sound in
    let index = subst (IsIndex inside.shape.keys.items (has_ternary inside.shape.keys.items) es) c.in-Priorities.is c.self.invariant in
    let at : place_in (has_rank e.priority) es ≡ Some c.in-Some.place = sym (index.1 e.priority) ∙ sym c.priority_place.ensures ∙ c.in-Some.is in
    let there = many_below inside.listed.items c.in-Some.place (stands (has_rank e.priority) es c.in-Some.place no_entry at).0 in
    let read : entry_of c.index.result.now ≡ get_or es c.in-Some.place no_entry = ap entry_of c.index.ensures ∙ sym (get_or-map entry_of inside.listed.items c.in-Some.place c.index.result.now no_entry there) in
    let told : c.same_keys.result ≡ same_keys (get_or es c.in-Some.place no_entry).keys e.keys =
    c.same_keys.ensures
    ∙ ap₂ (λ ms ns. same_keys (map match_of ms) (map match_of ns)) c.deref-in-Some.ensures.value c.deref-in-Some-2.ensures.value
    ∙ ap (λ (f : Entry). same_keys f.keys e.keys) read
    in
    ap (λ (b : Bool). if b then Some SameEntry else Some SamePriority) (sym c.if-same_keys.true ∙ told)
    ∙ sym (clash_there h e c.in-Some.place no_entry sound index.0 at)
    ∙ ap (λ (g : Held). clash_in g e) c.self.view_is

pub returns-in-Some : goal.returns-in-Some
returns-in-Some c =
    let inside = c.self.inside in
    let es = map entry_of inside.listed.items in
    let h : Held = record { shape = shape_of inside.shape; listed = es; default = act_of inside.default } in
    let e = entry_of c.args.e.now in
    let sound : IsSound h = subst IsSound (sym c.self.view_is) c.requires.sound in
    let index = subst (IsIndex inside.shape.keys.items (has_ternary inside.shape.keys.items) es) c.in-Priorities.is c.self.invariant in
    let at : place_in (has_rank e.priority) es ≡ Some c.in-Some.place = sym (index.1 e.priority) ∙ sym c.priority_place.ensures ∙ c.in-Some.is in
    let there = many_below inside.listed.items c.in-Some.place (stands (has_rank e.priority) es c.in-Some.place no_entry at).0 in
    let read : entry_of c.index.result.now ≡ get_or es c.in-Some.place no_entry = ap entry_of c.index.ensures ∙ sym (get_or-map entry_of inside.listed.items c.in-Some.place c.index.result.now no_entry there) in
    let told : c.same_keys.result ≡ same_keys (get_or es c.in-Some.place no_entry).keys e.keys =
    c.same_keys.ensures
    ∙ ap₂ (λ ms ns. same_keys (map match_of ms) (map match_of ns)) c.deref-in-Some.ensures.value c.deref-in-Some-2.ensures.value
    ∙ ap (λ (f : Entry). same_keys f.keys e.keys) read
    in
    ap (λ (b : Bool). if b then Some SameEntry else Some SamePriority) (sym c.if-same_keys.false ∙ told)
    ∙ sym (clash_there h e c.in-Some.place no_entry sound index.0 at)
    ∙ ap (λ (g : Held). clash_in g e) c.self.view_is
