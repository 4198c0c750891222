-- There is room for what variables hold, and it is taken.
use Rattle.std.proofs.Common.{◌≡◌, ℕ, zero, suc, ◌≤◌, List, [], ◌∷◌, ◌++◌, map, length, get_or, Bool, true, false, cond, nat_eq, Some, refl, sym, ap, ◌∙◌, subst, arith, All}
use Rattle.std.specs.Prelude.{slice_get}
use Rattle.std.specs.List.{AllByRecursion}
use Rattle.std.proofs.lemmas.Bool.{eqb-true}
use Rattle.std.proofs.lemmas.List.Elements.{All-head, All-tail}
use Rattle.p4_tree.specs.Tree.{Program}
use Rattle.indus_tree.specs.Tree.{Shape, set, Decl}
use Rattle.indus_tree.specs.State.{Contents}
use Rattle.network_run.specs.Events.{Event, Enter, Leave, Set}
use Rattle.network_run.specs.NetworkRun.{put}
use Rattle.table_items.specs.Items.{reads_of}
use Rattle.control_maps.specs.Numbers.{keys_of}
use Rattle.loaded_tables.specs.Rows.{Row, declared_shape, numbered_rows}
use Rattle.loaded_tables.specs.Loading.{IsOfShape, keys_in}
use Rattle.read_contents.specs.Fits.{FitsShape, FitsVariable, contents_at, FitDecls, IsFitEvent}
use Rattle.event_room.specs.Contents.{contents_behind, contents_after, FitVariables}
use Rattle.event_room.specs.Room.{ThereIsRoom, ContentsAreTaken}
use Rattle.event_room.proofs.Sums.{IsControlAt, total, total_within}
use Rattle.event_room.proofs.Limits.{switch_within, most_of, items_weigh, most_holds}
use Rattle.event_room.proofs.Counted.{variables, all_declared, few_rows}

-- ---- keys

module _ (q : Program) (ds : List Decl) (c : ℕ → Contents) (great : ℕ → ℕ) (holds : (v : ℕ) → length (keys_of (c v)) ≤ great v) where
  keys_few : (rows : List Row) → keys_in (numbered_rows q ds rows) c ≤ total great (variables rows)
  keys_few [] = omega arith
  keys_few (r ∷ rows) = let one = holds r.2 in let rest = keys_few rows in omega (arith, one, rest)

pub there_is_room : ThereIsRoom
there_is_room g rows entries contents events is s n e lt done rest whole q =
    let p = g.property in
    let cs = get_or contents s [] in
    let keys = keys_few q p.decls (contents_after s (contents_at p.decls cs) done) (most_of p s cs events) (most_holds p s cs events done rest whole) rows in
    let few = total_within (most_of p s cs events) (reads_of p) p.decls (variables rows) (all_declared g is.given rows is.mapped) (λ v d at k. few_rows g is.given rows is.mapped v d at) in
    let same = items_weigh p s cs events [] p.decls 0 0 refl refl refl in
    let within = switch_within p events entries contents is.within s n e lt in
    omega (arith, keys, few, same, within)

-- ---- shapes

shape_there : (ds : List Decl) (v : ℕ) (d : Decl) (other : Shape) → slice_get ds v ≡ Some d → get_or (map (λ (x : Decl). x.shape) ds) v other ≡ d.shape
shape_there [] v d other e = absurd (cc e)
shape_there (c ∷ ds) zero d other e = let same : c ≡ d = cc e in ap (λ (x : Decl). x.shape) same
shape_there (c ∷ ds) (suc v) d other e = shape_there ds v d other e

pub declared_there : (ds : List Decl) (v : ℕ) (d : Decl) → slice_get ds v ≡ Some d → declared_shape ds v ≡ d.shape
declared_there ds v d e = shape_there ds v d (set []) e

rows_fit :
    (q : Program) (ds : List Decl) (c : ℕ → Contents) → FitVariables ds c → (rows : List Row) → AllByRecursion (IsControlAt ds) (variables rows)
    → AllByRecursion (λ n. IsOfShape n.shape (c n.variable)) (numbered_rows q ds rows)
rows_fit q ds c fit [] h = tt
rows_fit q ds c fit (r ∷ rows) h = (
  subst (λ (s : Shape). IsOfShape s (c r.2)) (sym (declared_there ds r.2 h.0.decl h.0.declared)) (fit r.2 h.0.decl h.0.declared h.0.control).shape,
  rows_fit q ds c fit rows h.1,
)

-- ---- what fits stays

put_fits : (ds : List Decl) (c : ℕ → Contents) (v : ℕ) (x : Contents) → FitsVariable ds v x → FitVariables ds c → FitVariables ds (put c v x)
put_fits ds c v x is fit w d at k = go (nat_eq w v) refl
  where
    go : (b : Bool) → nat_eq w v ≡ b → FitsShape d.shape (cond b x (c w))
    go true e =
        (let there : slice_get ds v ≡ Some d = ap (slice_get ds) (sym (eqb-true w v e)) ∙ at in
        let declared : slice_get ds v ≡ Some is.decl = is.declared in
        let same : is.decl ≡ d = cc (there, declared) in
        subst (λ (y : Decl). FitsShape y.shape x) same is.fits)
    go false e = fit w d at k

module _ (packets switches : ℕ) (ds : List Decl) (s : ℕ) where
  behind_fits : (c : ℕ → Contents) (e : Event Contents) → IsFitEvent packets switches ds e → FitVariables ds c → FitVariables ds (contents_behind s c e)
  behind_fits c (Enter i) is fit = fit
  behind_fits c (Leave i) is fit = fit
  behind_fits c (Set t v x) is fit = go (nat_eq t s)
    where
      go : (b : Bool) → FitVariables ds (cond b (put c v x) c)
      go true = put_fits ds c v x is.1 fit
      go false = fit

  pub after_fits : (c : ℕ → Contents) (done rest : List (Event Contents)) → All (IsFitEvent packets switches ds) (done ++ rest) → FitVariables ds c → FitVariables ds (contents_after s c done)
  after_fits c [] rest is fit = fit
  after_fits c (e ∷ done) rest is fit =
      after_fits (contents_behind s c e) done rest (All-tail (IsFitEvent packets switches ds) e (done ++ rest) is)
      (behind_fits c e (All-head (IsFitEvent packets switches ds) e (done ++ rest) is) fit)

pub contents_are_taken : ContentsAreTaken
contents_are_taken g rows entries contents events is fit packets switches events_fit s n e lt done rest whole q =
    let ds = g.property.decls in
    let first : FitDecls ds (get_or contents s []) = fit s [] lt in
    record {
      shapes =
          rows_fit q ds (contents_after s (contents_at ds (get_or contents s [])) done)
          (after_fits packets switches ds s (contents_at ds (get_or contents s [])) done rest (subst (All (IsFitEvent packets switches ds)) whole events_fit) first)
          rows (all_declared g is.given rows is.mapped);
      few = there_is_room g rows entries contents events is s n e lt done rest whole q;
    }
