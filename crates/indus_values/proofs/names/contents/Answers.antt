use Rattle.std.proofs.Common.{◌≡◌, Option, None, Some, slice_get, length, refl, sym}
use Rattle.std.proofs.lemmas.Option.{slice_get_past, slice_get_read}
use Rattle.indus_values.specs.declared.state.ControlValue.{ControlValue}
use Rattle.indus_values.proofs.NameLemmas.{contents_found}
use Rattle.indus_values.proofs.names.contents.Goals as goal

pub returns-in-None-get : goal.returns-in-None-get
returns-in-None-get c =
    let there : (let o : Option ControlValue = None in o) ≡ slice_get c.deref.result.now c.seats-n.result = sym (slice_get_past c.deref.result.now c.seats-n.result c.in-None-get.ensures.lookup.3) in
    contents_found c.args.env.now.decls.now c.args.env.now.view.now.control.items c.deref.result.now c.args.name.now c.in-Some.v c.seats-n.result None c.deref.ensures.value c.in-Some.ensures.number c.seats-n.ensures there

pub returns-in-Some-get : goal.returns-in-Some-get
returns-in-Some-get c =
    let there : Some c.in-Some-get.c.now ≡ slice_get c.deref.result.now c.seats-n.result = sym (slice_get_read c.deref.result.now (length c.deref.result.now) c.seats-n.result c.in-Some-get.c.now refl c.in-Some-get.ensures.lookup.3.0 c.in-Some-get.ensures.lookup.1) in
    contents_found c.args.env.now.decls.now c.args.env.now.view.now.control.items c.deref.result.now c.args.name.now c.in-Some.v c.seats-n.result (Some c.in-Some-get.c.now) c.deref.ensures.value c.in-Some.ensures.number c.seats-n.ensures there
