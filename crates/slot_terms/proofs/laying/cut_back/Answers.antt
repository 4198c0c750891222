use Rattle.std.proofs.Common.{List, map, take, ap, sym, ◌∙◌}
use Rattle.std.proofs.lemmas.List.{take-map}
use Rattle.slot_terms.specs.Hashes.{hash_of}
use Rattle.slot_terms.specs.Places.{Place, Places, place_of, path_of}
use Rattle.slot_terms.proofs.laying.cut_back.Goals as goal

pub returns : goal.returns
returns c =
    ap (λ (rows : List Place). (let p : Places = record { rows = rows; headers = map path_of c.args.places.now.headers.items; next = c.args.next; size = c.args.places.now.size } in p))
    (ap (map place_of) c.truncate.ensures.items ∙ sym (take-map place_of c.args.count c.args.places.now.rows.items))

pub invariant_of-places : goal.invariant_of-places
invariant_of-places c = record {
  hashed =
      c.truncate-2.ensures.items
      ∙ ap (take c.args.count) c.args.places.now.hashed
      ∙ take-map hash_of c.args.count c.args.places.now.rows.items
      ∙ ap (map hash_of) (sym c.truncate.ensures.items);
}
