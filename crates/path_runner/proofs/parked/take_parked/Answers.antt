use Rattle.std.proofs.Common.{length, map, set, Some, refl, ap, sym, ◌∙◌, subst}
use Rattle.std.proofs.lemmas.List.{map-set, set-set, length-set}
use Rattle.network_run.specs.Network.{Over}
use Rattle.path_runner.specs.Places.{place_in}
use Rattle.path_runner.specs.Sound.{IsNotWaiting}
use Rattle.path_runner.specs.declared.place.Place.TheVariants as code
use Rattle.path_runner.proofs.Lists.{map_same, set_same}
use Rattle.path_runner.proofs.Standing.{read_item, view_at, not_waiting}
use Rattle.path_runner.proofs.parked.take_parked.Goals as goal

pub returns-in-Waiting-clause-taken : goal.returns-in-Waiting-clause-taken
returns-in-Waiting-clause-taken g c =
    let places = c.args.places.now.items in (
      map-set place_in places c.args.at c.replace.new.dest ∙ ap (set (map place_in places) c.args.at) (ap place_in c.replace.ensures.after),
      view_at place_in places c.args.at (code.Waiting c.in-Waiting.parked) Over
          (read_item places (length places) c.args.at c.index_mut.result.now refl c.requires c.index_mut.ensures.value ∙ ap Some (sym c.replace.ensures.value ∙ c.in-Waiting.is)),
    )

pub returns-in-Waiting-clause-items : goal.returns-in-Waiting-clause-items
returns-in-Waiting-clause-items g c = ap (set c.args.places.now.items c.args.at) c.replace.ensures.after

pub returns-in-Waiting-clause-waited : goal.returns-in-Waiting-clause-waited
returns-in-Waiting-clause-waited g c =
    let places = c.args.places.now.items in
    read_item places (length places) c.args.at c.index_mut.result.now refl c.requires c.index_mut.ensures.value ∙ ap Some (sym c.replace.ensures.value ∙ c.in-Waiting.is)

pub returns-in_default : goal.returns-in_default
returns-in_default g c =
    let places = c.args.places.now.items in
    let x = c.index_mut.result.now in
    let here = read_item places (length places) c.args.at x refl c.requires c.index_mut.ensures.value in
    record {
      length = simp length-set;
      waited = tt;
      items = set-set places c.args.at c.replace.new.dest c.replace-over.new.dest
          ∙ ap (set places c.args.at) (c.replace-over.ensures.after ∙ c.replace.ensures.value) ∙ set_same places c.args.at x here;
      taken = (
        ap (map place_in) (set-set places c.args.at c.replace.new.dest c.replace-over.new.dest)
            ∙ map_same place_in places c.args.at x c.replace-over.new.dest here (ap place_in (c.replace-over.ensures.after ∙ c.replace.ensures.value)),
        subst IsNotWaiting (sym (view_at place_in places c.args.at x Over here)) (not_waiting x (λ p e. c.in_default.not-Waiting p (c.replace.ensures.value ∙ e))),
      );
    }
