use Rattle.std.proofs.Common.{◌++◌, ◌∷◌, [], map, take, sym, subst}
use Rattle.p4_parts.specs.PartsIn.{key_in}
use Rattle.slot_terms.specs.Typed.{typed_of}
use Rattle.slot_terms.specs.Places.{places_of}
use Rattle.slot_statements.specs.Tables.{MeanKeys}
use Rattle.slot_statements.specs.Known.{are_known_keys}
use Rattle.slot_statements.proofs.KnownLemmas.{known_key_more}
use Rattle.slot_statements.proofs.TreeLemmas.{one_more}
use Rattle.slot_statements.proofs.TableLemmas.{keys_more}
use Rattle.slot_statements.proofs.tables.key_terms.Goals as goal

pub loop-k-preserved : goal.loop-k-preserved
loop-k-preserved c = record {
  known = known_key_more (places_of c.args.places.now) (are_known_keys (places_of c.args.places.now) (map key_in c.args.keys.now)) c.args.keys.now c.loop-k.k-index c.k-item.result c.loop-k-test.true c.k-item.is c.in_ok-t.ensures.known c.loop-k.invariant.known;
  mean =
      subst (λ ks. MeanKeys (places_of c.args.places.now) ks (map typed_of c.push_key.new.keys.items)) (sym (one_more key_in c.args.keys.now c.loop-k.k-index c.k-item.result c.loop-k-test.true c.k-item.is))
      (subst (λ ts. MeanKeys (places_of c.args.places.now) (map key_in (take c.loop-k.k-index c.args.keys.now) ++ key_in c.k-item.result ∷ []) ts) (sym c.in_ok-push_key.ensures)
      (keys_more (places_of c.args.places.now) (map key_in (take c.loop-k.k-index c.args.keys.now)) (map typed_of c.loop-k.all.items) (key_in c.k-item.result) (typed_of c.in_ok-t.t) c.loop-k.invariant.mean
      c.in_ok-t.ensures.means));
}
