-- Items of loops: what stands for them in flat code, inside a loop and behind statements.
use Rattle.std.proofs.Common.{◌≡◌, ◌⊎◌, inl, inr, ⊎_elim, ℕ, zero, suc, ◌+◌, ◌<◌, ◌≤◌, List, [], ◌∷◌, ◌++◌, length, map, Bool, true, false, ◌&&◌, ◌||◌, cond, Option, Some, None, refl, sym, ap, ap₂, ◌∙◌, arith, subst, slice_get, get_or}
use Rattle.std.specs.Prelude.{not}
use Rattle.std.proofs.lemmas.Option.{slice_get-get_or}
use Rattle.std.proofs.lemmas.Slice.Eq.{bytes_eq-Decides}
use Rattle.bit_values.specs.Bits.{Word, word}
use Rattle.lex_text.specs.Names.{same_text}
use Rattle.rule_sites.specs.Sites.{or_else}
use Rattle.indus_tree.specs.Tree.{Decl}
use Rattle.indus_tree.specs.State.{Held, lookup, nothing_of}
use Rattle.indus_tree.specs.Reads.{Items, or_word, item_in}
use Rattle.indus_tree.specs.Meaning.{turn_items, named}
use Rattle.indus_tree.specs.Hops.{variable_number}
use Rattle.indus_scopes.specs.Scopes.{Around, Sight, Stands as Role, role_from, role_of, item_of, builtin_of, item_in as kind_in, list_item}
use Rattle.indus_scopes.specs.Uses.{is_missing}
use Rattle.indus_scopes.specs.Items.{among, repeats}
use Rattle.indus_scopes.specs.declared.kind.Kind.{Kind}
use Rattle.indus_scopes.specs.declared.kind.Kind.TheVariants.{Unknown}
use Rattle.indus_rules.specs.Rules.{walked}
use Rattle.lower_lists.specs.declared.place.Bound.{Bound}
use Rattle.lower_lists.specs.Flat.{list_number, list_in, list_of_shape, number_in, found, bound_to}
use Rattle.flat_laws.proofs.States.{has_number}
use Rattle.flat_laws.proofs.Roles.{IsList}
use Rattle.flat_laws.proofs.Values.{IsShown, StandsAt, Stands}

-- the number of a list is that of its variable
pub number_of : (ds : List Decl) (x : List ℕ) → IsList ds x → variable_number ds x ≡ Some (list_number ds x)
number_of ds x l =
    let m = has_number ds 0 x l.decl l.found in
    m.1 ∙ ap (λ v. Some v) (sym (ap number_in (ap₂ list_in m.1 l.found ∙ ap (list_of_shape m.0) l.shape)))

-- ---- behind statements that leave the walked lists alone

shown_still : (ds : List Decl) (ls : List Around) (f h : Held) (b : Bound) (w : Word) → ((l : List ℕ) → IsList ds l → walked ls l ≡ true → h l ≡ f l) → IsShown ds ls f b w → IsShown ds ls h b w
shown_still ds ls f h b w same s = record { name = s.name; is = s.is; number = s.number; value = ap (λ ws. slice_get ws b.turn) (same s.name s.is s.walks) ∙ s.value; walks = s.walks }

at_still : (ds : List Decl) (ls : List Around) (f h : Held) → ((l : List ℕ) → IsList ds l → walked ls l ≡ true → h l ≡ f l) → (k : Option Kind) (b : Option Bound) (w : Option Word) → StandsAt ds ls f k b w → StandsAt ds ls h k b w
at_still ds ls f h same None None None s = tt
at_still ds ls f h same (Some k) (Some b) (Some w) s = shown_still ds ls f h b w same s
at_still ds ls f h same None None (Some w) s = absurd s
at_still ds ls f h same None (Some b) w s = absurd s
at_still ds ls f h same (Some k) None w s = absurd s
at_still ds ls f h same (Some k) (Some b) None s = absurd s

pub stands_still : (ds : List Decl) (ls : List Around) (items : Items) (bs : List Bound) (f h : Held) → ((l : List ℕ) → IsList ds l → walked ls l ≡ true → h l ≡ f l) → Stands ds ls items bs f → Stands ds ls items bs h
stands_still ds ls items bs f h same s = record { at = λ x. at_still ds ls f h same (item_of ds ls x) (found bs x) (item_in items x) (s.at x) }

-- ---- inside a loop

abbrev pub or_bound : Option Bound → Option Bound → Option Bound
or_bound None p = p
or_bound (Some b) p = Some b

abbrev or_item : Option Word → Option Word → Option Word
or_item None p = p
or_item (Some w) p = Some w

bound_step : (c : Bool) (b : Bound) (o p : Option Bound) → cond c (Some b) (or_bound o p) ≡ or_bound (cond c (Some b) o) p
bound_step true b o p = refl
bound_step false b o p = refl

pub found-append : (bs cs : List Bound) (x : List ℕ) → found (bs ++ cs) x ≡ or_bound (found bs x) (found cs x)
found-append [] cs x = refl
found-append (b ∷ bs) cs x = ap (cond (same_text b.name x) (Some b)) (found-append bs cs x) ∙ bound_step (same_text b.name x) b (found bs x) (found cs x)

item_step : (c : Bool) (w : Word) (o p : Option Word) → cond c (Some w) (or_item o p) ≡ or_item (cond c (Some w) o) p
item_step true w o p = refl
item_step false w o p = refl

item_in-append : (is js : Items) (x : List ℕ) → item_in (is ++ js) x ≡ or_item (item_in is x) (item_in js x)
item_in-append [] js x = refl
item_in-append (i ∷ is) js x = ap (cond (same_text i.0 x) (Some i.1)) (item_in-append is js x) ∙ item_step (same_text i.0 x) i.1 (item_in is x) (item_in js x)

-- lists that are walked and have an item at a place
abbrev pub AreAt : List Decl → List Around → Held → (k : ℕ) → List (List ℕ) → Type 0
AreAt ds ls tele k [] = Unit {0}
AreAt ds ls tele k (l ∷ rest) = IsList ds l × (k < length (tele l)) × (walked ls l ≡ true) × AreAt ds ls tele k rest

module _ (ds : List Decl) (ls : List Around) (tele : Held) (k : ℕ) where
  step : (b : Bool) (l : List ℕ) (q : Option Kind) (c : Option Bound) (w : Option Word) (x : List ℕ) (kind : Kind) → IsList ds l → k < length (tele l) → walked ls l ≡ true → StandsAt ds ls tele q c w
      → StandsAt ds ls tele (cond b (Some kind) q) (cond b (Some (record { name = x; list = list_number ds l; turn = k })) c) (cond b (Some (or_word (slice_get (tele l) k) (nothing_of 1))) w)
  step true l q c w x kind is lt walks s =
      let z : Word = nothing_of 1 in
      let there : slice_get (tele l) k ≡ Some (get_or (tele l) k z) = slice_get-get_or (tele l) k z lt in
      record { name = l; is = is; number = number_of ds l is; value = there ∙ ap (λ v. Some v) (sym (ap (λ o. or_word o z) there)); walks = walks }
  step false l q c w x kind is lt walks s = s

  -- the items of one turn
  turn_stands : (ns lists : List (List ℕ)) → length ns ≡ length lists → AreAt ds ls tele k lists → (x : List ℕ) → StandsAt ds ls tele (kind_in ds ns lists x) (found (bound_to ns (map (list_number ds) lists) k) x) (item_in (named ns (turn_items (map tele lists) k)) x)
  turn_stands [] lists e a x = tt
  turn_stands (n ∷ ns) [] e a x = absurd (omega arith)
  turn_stands (n ∷ ns) (l ∷ lists) e a x =
      step (same_text n x) l (kind_in ds ns lists x) (found (bound_to ns (map (list_number ds) lists) k) x) (item_in (named ns (turn_items (map tele lists) k)) x) n (list_item ds l) a.0 a.1 a.2 (turn_stands ns lists (omega arith) a.3 x)

-- an item's name stands for nothing around the loop
new_at : (k b : Option Kind) (o : Option Decl) → is_missing (role_from k b o) ≡ true → k ≡ None
new_at None b o e = refl
new_at (Some k) b o e = absurd (let c : false ≡ true = e in cc)

not_true : (b : Bool) → not b ≡ false → b ≡ true
not_true true e = refl
not_true false e = absurd (let c : true ≡ false = e in cc)

parts_false : (a b : Bool) → (a || b) ≡ false → (a ≡ false) × (b ≡ false)
parts_false true b e = absurd (let c : true ≡ false = e in cc)
parts_false false b e = (refl, e)

pub name_new : (g : Sight) (ns lists : List (List ℕ)) (x : List ℕ) (k : Kind) → repeats g ns ≡ false → kind_in g.decls ns lists x ≡ Some k → item_of g.decls g.loops x ≡ None
name_new g [] lists x k e h = absurd (cc h)
name_new g (n ∷ ns) [] x k e h =
    let o = parts_false (not (is_missing (role_of g n)) || among ns n) (repeats g ns) e in
    by_name (same_text n x) refl h (name_new g ns [] x k o.1) (parts_false (not (is_missing (role_of g n))) (among ns n) o.0).0
  where
    by_name : (b : Bool) → same_text n x ≡ b → cond b (Some Unknown) (kind_in g.decls ns [] x) ≡ Some k → (kind_in g.decls ns [] x ≡ Some k → item_of g.decls g.loops x ≡ None) → not (is_missing (role_of g n)) ≡ false → item_of g.decls g.loops x ≡ None
    by_name true s q rest m = subst (λ y. item_of g.decls g.loops y ≡ None) ((bytes_eq-Decides n x).0 s) (new_at (item_of g.decls g.loops n) (builtin_of n) (lookup g.decls n) (not_true (is_missing (role_of g n)) m))
    by_name false s q rest m = rest q
name_new g (n ∷ ns) (l ∷ lists) x k e h =
    let o = parts_false (not (is_missing (role_of g n)) || among ns n) (repeats g ns) e in
    by_name (same_text n x) refl h (name_new g ns lists x k o.1) (parts_false (not (is_missing (role_of g n))) (among ns n) o.0).0
  where
    by_name : (b : Bool) → same_text n x ≡ b → cond b (Some (list_item g.decls l)) (kind_in g.decls ns lists x) ≡ Some k → (kind_in g.decls ns lists x ≡ Some k → item_of g.decls g.loops x ≡ None) → not (is_missing (role_of g n)) ≡ false → item_of g.decls g.loops x ≡ None
    by_name true s q rest m = subst (λ y. item_of g.decls g.loops y ≡ None) ((bytes_eq-Decides n x).0 s) (new_at (item_of g.decls g.loops n) (builtin_of n) (lookup g.decls n) (not_true (is_missing (role_of g n)) m))
    by_name false s q rest m = rest q

or_true : (a b : Bool) → b ≡ true → (a || b) ≡ true
or_true true b e = refl
or_true false b e = e

-- what a surrounding loop walks is walked inside too
shown_inside : (ds : List Decl) (a : Around) (ls : List Around) (tele : Held) (b : Bound) (w : Word) → IsShown ds ls tele b w → IsShown ds (a ∷ ls) tele b w
shown_inside ds a ls tele b w s = record { name = s.name; is = s.is; number = s.number; value = s.value; walks = or_true (among a.lists s.name) (walked ls s.name) s.walks }

joined_at : (ds : List Decl) (a : Around) (ls : List Around) (tele : Held) (k o : Option Kind) (b c : Option Bound) (w u : Option Word)
    → StandsAt ds (a ∷ ls) tele k b w → StandsAt ds ls tele o c u → ((i : Kind) → k ≡ Some i → o ≡ None)
    → StandsAt ds (a ∷ ls) tele (or_else k o) (or_bound c b) (or_item u w)
joined_at ds a ls tele None None None None None None s t new = tt
joined_at ds a ls tele None (Some o) None (Some c) None (Some u) s t new = shown_inside ds a ls tele c u t
joined_at ds a ls tele (Some k) None (Some b) None (Some w) None s t new = s
joined_at ds a ls tele (Some k) (Some o) b c w u s t new = absurd (let n : Some o ≡ None = new k refl in cc)
joined_at ds a ls tele None o (Some b) c w u s t new = absurd s
joined_at ds a ls tele None o None c (Some w) u s t new = absurd s
joined_at ds a ls tele (Some k) o None c w u s t new = absurd s
joined_at ds a ls tele (Some k) o (Some b) c None u s t new = absurd s
joined_at ds a ls tele k None b (Some c) w u s t new = absurd t
joined_at ds a ls tele k None b None w (Some u) s t new = absurd t
joined_at ds a ls tele k (Some o) b None w u s t new = absurd t
joined_at ds a ls tele k (Some o) b (Some c) w None s t new = absurd t

-- inside the k-th turn of a loop
pub stands_inside : (g : Sight) (ns lists : List (List ℕ)) (items : Items) (bs : List Bound) (tele : Held) (k : ℕ) → repeats g ns ≡ false → length ns ≡ length lists
    → (let a : Around = record { names = ns; lists = lists } in AreAt g.decls (a ∷ g.loops) tele k lists) → Stands g.decls g.loops items bs tele
    → (let a : Around = record { names = ns; lists = lists } in Stands g.decls (a ∷ g.loops) (items ++ named ns (turn_items (map tele lists) k)) (bs ++ bound_to ns (map (list_number g.decls) lists) k) tele)
stands_inside g ns lists items bs tele k new even at_k s =
    let a : Around = record { names = ns; lists = lists } in
    let js : Items = named ns (turn_items (map tele lists) k) in
    let cs : List Bound = bound_to ns (map (list_number g.decls) lists) k in
    record {
      at = λ x.
          subst (λ o. StandsAt g.decls (a ∷ g.loops) tele (or_else (kind_in g.decls ns lists x) (item_of g.decls g.loops x)) o (item_in (items ++ js) x)) (sym (found-append bs cs x))
          (subst (λ o. StandsAt g.decls (a ∷ g.loops) tele (or_else (kind_in g.decls ns lists x) (item_of g.decls g.loops x)) (or_bound (found bs x) (found cs x)) o) (sym (item_in-append items js x))
          (joined_at g.decls a g.loops tele (kind_in g.decls ns lists x) (item_of g.decls g.loops x) (found cs x) (found bs x) (item_in js x) (item_in items x)
          (turn_stands g.decls (a ∷ g.loops) tele k ns lists even at_k x) (s.at x) (λ i e. name_new g ns lists x i new e)));
    }
