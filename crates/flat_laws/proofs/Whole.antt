-- The laws of whole blocks.
use Rattle.std.proofs.Common.{◌≡◌, ℕ, ◌+◌, ◌<◌, ◌^◌, ◌≤◌, List, [], false, Option, Some, None, refl, sym, ap, ◌∙◌, subst, arith, length}
use Rattle.bit_values.specs.Bits.{Word, word}
use Rattle.network_run.specs.PathMeaning.{Doing, nothing_yet}
use Rattle.indus_tree.specs.Tree.{Shape, one, list, set, dict, Stmts, Decl, Property, block_from}
use Rattle.indus_tree.specs.State.{Hop, Held, lookup, members}
use Rattle.indus_tree.specs.Start.{tele_start, start_of_decl, start_of_shape}
use Rattle.indus_tree.specs.Hops.{variable_number}
use Rattle.indus_tree.specs.Meaning.{run_of}
use Rattle.indus_tree.specs.Shapes.{AreShaped}
use Rattle.indus_tree.specs.declared.tree.DeclKind.TheVariants.{Tele}
use Rattle.indus_scopes.specs.Scopes.{Sight}
use Rattle.indus_scopes.specs.declared.scope.Block.{Block}
use Rattle.indus_scopes.specs.declared.scope.Block.TheVariants as block
use Rattle.indus_rules.specs.Sites.{block_sites, sight}
use Rattle.indus_rules.specs.Rules.{Fine}
use Rattle.indus_types.proofs.Checked.{each_fine}
use Rattle.lower_lists.specs.Names.{item_name, count_name}
use Rattle.lower_lists.specs.Flat.{flat_of}
use Rattle.flat_laws.specs.Numbered.{numbered, numbered_hop, Holds, HoldsList, Numbers}
use Rattle.flat_laws.specs.Meaning.{DoesTheSame, IsPlainProperty, FlatDoesTheSame, FlatCodeDoesTheSame, StartsAreNumbered}
use Rattle.flat_laws.proofs.Roles.{IsList}
use Rattle.flat_laws.proofs.Values.{IsReady, count_found, item_found, scalar_found}
use Rattle.flat_laws.proofs.Blocks.{flat_block_run}
use Rattle.flat_laws.proofs.Loops.{no_stands}
use Rattle.flat_laws.proofs.Typed.{ready, block_suits}

module _ (p : Property) (q : IsPlainProperty p) (b : Block) (ss : Stmts) (f : Fine (block_sites (sight p b) ss)) where
  same_here : (h0 : Hop) → (let h : Hop = record h0 { decls = p.decls } in DoesTheSame h ss (flat_of p.decls ss))
  same_here h0 =
      record {
        runs = λ s t k n. flat_block_run (sight p b) (ready p q.typed q.plain q.few) h0 ss [] [] [] s t (block_suits ss (sight p b) f) n k (no_stands p.decls s.tele);
      }

  same : (h : Hop) → h.decls ≡ p.decls → DoesTheSame h ss (flat_of p.decls ss)
  same h e = let P : List Decl → Type 0 = λ ds. (let g : Hop = record h { decls = ds } in DoesTheSame g ss (flat_of p.decls ss)) in subst P (sym e) (same_here h)

pub flat_does_the_same : FlatCodeDoesTheSame
flat_does_the_same p q =
    let f = (each_fine p q.typed).1.1 in
    record { init = same p q block.Init p.init f.0; tele = same p q block.Tele p.tele f.1.0; check = same p q block.Check p.check f.1.1 }

module _ (p : Property) (q : IsPlainProperty p) where
  abbrev g : Sight
  g = sight p block.Init

  abbrev r : IsReady p.decls
  r = ready p q.typed q.plain q.few

  starts : (h0 : Hop) (x : List ℕ) (d : Decl) (v : ℕ) → lookup p.decls x ≡ Some d → variable_number p.decls x ≡ Some v → d.kind ≡ Tele → (s : Shape) → d.shape ≡ s → Holds v s (start_of_shape s) (tele_start (numbered p.decls))
  starts h0 x d v e n k (one t) z = ap start_of_decl (scalar_found g r h0 x d t v e k z n)
  starts h0 x d v e n k (list t m) z =
      let l : IsList p.decls x = record { decl = d; item = t; size = m; found = e; kind = k; shape = z } in
      record { count = ap start_of_decl (count_found g r h0 x l v n); items = λ i lt. ap start_of_decl (item_found g r h0 x l v n i lt) }
  starts h0 x d v e n k (set ks) z = tt
  starts h0 x d v e n k (dict ks t) z = tt

  pub starts_numbered : (h0 : Hop) (sensors : Held) → Numbers p.decls (nothing_yet (tele_start p.decls) sensors) (nothing_yet (tele_start (numbered p.decls)) sensors)
  starts_numbered h0 sensors =
      record {
        tele = λ x d v e n k. subst (λ (o : Option Decl). Holds v d.shape (start_of_decl o) (tele_start (numbered p.decls))) (sym e) (starts h0 x d v e n k d.shape refl);
        sensors = refl;
        rejected = refl;
        reports = refl;
      }

-- some hop, which a start doesn't see
abbrev anyhop : Hop
anyhop = record { decls = []; headers = λ x. word 1 0; contents = λ x. members []; first = false; last = false; switch = 0 }

pub starts_are_numbered : StartsAreNumbered
starts_are_numbered p q sensors = starts_numbered p q anyhop sensors
