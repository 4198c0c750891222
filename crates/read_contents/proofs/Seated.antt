-- The contents of all control variables of a switch, by their places among them, and those of all switches.
use Rattle.std.proofs.Common.{◌≡◌, ℕ, zero, suc, ◌+◌, List, [], ◌∷◌, ◌++◌, map, take, Bool, true, false, cond, ◌&&◌, nat_lt, ◌^◌, Option, Some, None, Result, Ok, refl, sym, ap, ◌∙◌, subst, arith}
use Rattle.std.specs.Prelude.{slice_get, slice_set, option_and_then}
use Rattle.std.proofs.lemmas.Option.{cond_some}
use Rattle.std.proofs.lemmas.List.{length-set, length-map}
use Rattle.std.proofs.lemmas.List.Elements.{All-set, All-map}
use Rattle.serde_json.specs.Data.{Data}
use Rattle.indus_tree.specs.Tree.{Decl, Property}
use Rattle.indus_tree.specs.State.{Contents}
use Rattle.indus_tree.specs.Hops.{same_kind, variable_number}
use Rattle.indus_tree.specs.declared.tree.DeclKind.{DeclKind}
use Rattle.indus_tree.specs.declared.tree.DeclKind.TheVariants.{Tele, Sensor, Header, Control}
use Rattle.indus_rules.specs.Rules.{IsWellTyped}
use Rattle.indus_values.specs.View.{seats, or_no_members}
use Rattle.network_file.specs.Network.{number_of}
use Rattle.json_parts.specs.Paths.{below}
use Rattle.json_parts.specs.Turns.{each_in_turn}
use Rattle.json_values.specs.Words.{object_at}
use Rattle.control_file.specs.Contents.{unset}
use Rattle.control_file.specs.Contents as file
use Rattle.control_file.specs.Control.{Variable, is_numbered, if_control, variable_of, all_unset, with_contents, set_found, set_variable, variables_at, set_numbered, set_switch, control_of}
use Rattle.read_contents.specs.Fits.{FitsShape, FitDecls}
use Rattle.read_contents.specs.Laws.{FitSwitches, FilesFit}
use Rattle.read_contents.proofs.Words.{read_then, ok_same}
use Rattle.read_contents.proofs.Shaped.{fine_variable, shape_fits, unset_fits}

-- ---- in turn

module _ {E S A : Type 0} (step : S → A → Result S E) (P : S → Type 0) (kept : (s : S) (a : A) (t : S) → P s → step s a ≡ Ok t → P t) where
  pub each_kept : (s : S) (xs : List A) (t : S) → P s → each_in_turn step s xs ≡ Ok t → P t
  unfolding each_in_turn
  each_kept s [] t h e = subst P (ok_same s t e) h
  each_kept s (x ∷ xs) t h e =
      read_then (step s x) (λ more. each_in_turn step more xs) t e (λ more is rest. each_kept more xs t (kept s x more h is) rest)

-- ---- places

is_control : (k : DeclKind) → k ≡ Control → same_kind Control k ≡ true
is_control k e = ap (same_kind Control) e

-- before a control variable there are fewer than with it
next_seat : (b : Bool) (s : ℕ) → b ≡ true → cond b (s + 1) s ≡ s + 1
next_seat true s e = refl
next_seat false s e = absurd (cc e)

pub same_seat :
    (ds : List Decl) (v w : ℕ) (d e : Decl) → slice_get ds v ≡ Some d → slice_get ds w ≡ Some e → d.kind ≡ Control → e.kind ≡ Control
    → seats Control (take v ds) ≡ seats Control (take w ds) → d ≡ e
same_seat [] v w d e at also k l s = absurd (cc at)
same_seat (c ∷ ds) zero zero d e at also k l s = cc (at, also)
same_seat (c ∷ ds) zero (suc w) d e at also k l s =
    let same : c ≡ d = cc at in
    let more = next_seat (same_kind Control c.kind) (seats Control (take w ds)) (is_control c.kind (ap (λ (x : Decl). x.kind) same ∙ k)) in
    absurd (omega (arith, more, s))
same_seat (c ∷ ds) (suc v) zero d e at also k l s =
    let same : c ≡ e = cc also in
    let more = next_seat (same_kind Control c.kind) (seats Control (take v ds)) (is_control c.kind (ap (λ (x : Decl). x.kind) same ∙ l)) in
    absurd (omega (arith, more, s))
same_seat (c ∷ ds) (suc v) (suc w) d e at also k l s =
    same_seat ds v w d e at also k l (behind (same_kind Control c.kind) (seats Control (take v ds)) (seats Control (take w ds)) s)
  where
    behind : (b : Bool) (m n : ℕ) → cond b (m + 1) m ≡ cond b (n + 1) n → m ≡ n
    behind true m n e = omega (arith, e)
    behind false m n e = e

-- what stands at the places of a list whose one item is new
set_cases : (P : ℕ → Contents → Type 0) (held : List Contents) (s : ℕ) (c : Contents) → P s c → ((j : ℕ) → P j (or_no_members (slice_get held j)))
    → (j : ℕ) → P j (or_no_members (slice_get (slice_set held s c) j))
set_cases P [] s c new old j = old j
set_cases P (x ∷ held) zero c new old zero = new
set_cases P (x ∷ held) zero c new old (suc j) = old (suc j)
set_cases P (x ∷ held) (suc s) c new old zero = old zero
set_cases P (x ∷ held) (suc s) c new old (suc j) = set_cases (λ i. P (suc i)) held s c new (λ i. old (suc i)) j

-- ---- the variables of a switch

-- a control variable that is declared
pub record IsFound (ds : List Decl) (v : Variable) : Type 0 where
  pub declared : slice_get ds v.number ≡ Some v.decl
  pub control : v.decl.kind ≡ Control

kind_is : (k : DeclKind) → same_kind Control k ≡ true → k ≡ Control
kind_is Tele e = absurd (cc e)
kind_is Sensor e = absurd (cc e)
kind_is Header e = absurd (cc e)
kind_is Control e = refl

first_of : (a b : Bool) → (a && b) ≡ true → a ≡ true
first_of true b e = refl
first_of false b e = absurd (cc e)

if_is : (ds : List Decl) (n : ℕ) (d : Decl) (v : Variable) → slice_get ds n ≡ Some d → if_control n d ≡ Some v → IsFound ds v
if_is ds n d v at e =
    let both = cond_some (is_numbered d.kind n) (record { number = n; decl = d }) v e in
    subst (IsFound ds) both.1 (record { declared = at; control = kind_is d.kind (first_of (same_kind Control d.kind) (nat_lt n (2 ^ 32)) both.0) })

numbered_is : (ds : List Decl) (n : ℕ) (v : Variable) (o : Option Decl) → slice_get ds n ≡ o → option_and_then (if_control n) o ≡ Some v → IsFound ds v
numbered_is ds n v None at e = absurd (cc e)
numbered_is ds n v (Some d) at e = if_is ds n d v at e

named_is : (ds : List Decl) (v : Variable) (o : Option ℕ) → option_and_then (λ n. option_and_then (if_control n) (slice_get ds n)) o ≡ Some v → IsFound ds v
named_is ds v None e = absurd (cc e)
named_is ds v (Some n) e = numbered_is ds n v (slice_get ds n) refl e

pub variable_is : (ds : List Decl) (name : List ℕ) (v : Variable) → variable_of ds name ≡ Some v → IsFound ds v
variable_is ds name v e = named_is ds v (variable_number ds name) e

pub set_fits : (ds : List Decl) (held : List Contents) (v : Variable) (c : Contents) → IsFound ds v → FitsShape v.decl.shape c → FitDecls ds held → FitDecls ds (with_contents ds v.number held c)
set_fits ds held v c is fits old w d at k =
    set_cases (λ j x. seats Control (take w ds) ≡ j → FitsShape d.shape x) held (seats Control (take v.number ds)) c
    (λ seat. subst (λ (x : Decl). FitsShape x.shape c) (same_seat ds v.number w v.decl d is.declared at is.control k (sym seat)) fits)
    (λ j seat. subst (λ (i : ℕ). FitsShape d.shape (or_no_members (slice_get held i))) seat (old w d at k))
    (seats Control (take w ds)) refl

unset_at : (ds : List Decl) (v : ℕ) (d : Decl) → slice_get ds v ≡ Some d → d.kind ≡ Control → slice_get (all_unset ds) (seats Control (take v ds)) ≡ Some (unset d.shape)
unset_at [] v d at k = absurd (cc at)
unset_at (c ∷ ds) zero d at k =
    let same : c ≡ d = cc at in
    ap (λ (b : Bool). slice_get (cond b (unset c.shape ∷ []) [] ++ all_unset ds) 0) (is_control c.kind (ap (λ (x : Decl). x.kind) same ∙ k))
    ∙ ap (λ (x : Decl). Some (unset x.shape)) same
unset_at (c ∷ ds) (suc v) d at k = go (same_kind Control c.kind) (unset_at ds v d at k)
  where
    go : (b : Bool) → slice_get (all_unset ds) (seats Control (take v ds)) ≡ Some (unset d.shape)
        → slice_get (cond b (unset c.shape ∷ []) [] ++ all_unset ds) (cond b (seats Control (take v ds) + 1) (seats Control (take v ds))) ≡ Some (unset d.shape)
    go true h = let next : seats Control (take v ds) + 1 ≡ suc (seats Control (take v ds)) = omega arith in ap (slice_get (unset c.shape ∷ all_unset ds)) next ∙ h
    go false h = h

module _ (p : Property) (typed : IsWellTyped p) where
  all_unset_fit : FitDecls p.decls (all_unset p.decls)
  all_unset_fit v d at k =
      subst (FitsShape d.shape) (sym (ap or_no_members (unset_at p.decls v d at k))) (unset_fits d.shape (fine_variable p v d (record { typed = typed; declared = at; control = k })))

  pub read_fits : (v : Variable) → IsFound p.decls v → (path : List ℕ) (d : Data) (c : Contents) → file.contents_at path v.decl.shape d ≡ Ok c → FitsShape v.decl.shape c
  read_fits v is path d c e = shape_fits v.decl.shape path d c (fine_variable p v.number v.decl (record { typed = typed; declared = is.declared; control = is.control })) e

  found_fits : (path : List ℕ) (held : List Contents) (o : Option Variable) (d : Data) (more : List Contents) → ((v : Variable) → o ≡ Some v → IsFound p.decls v) → FitDecls p.decls held
      → set_found path p.decls held o d ≡ Ok more → FitDecls p.decls more
  found_fits path held None d more is fits e = absurd (cc e)
  found_fits path held (Some v) d more is fits e =
      read_then (file.contents_at path v.decl.shape d) (λ c. Ok (with_contents p.decls v.number held c)) more e
      (λ c read last. subst (FitDecls p.decls) (ok_same _ _ last) (set_fits p.decls held v c (is v refl) (read_fits v (is v refl) path d c read) fits))

  variables_fit : (path : List ℕ) (d : Data) (cs : List Contents) → variables_at path p.decls d ≡ Ok cs → FitDecls p.decls cs
  variables_fit path d cs e =
      read_then (object_at path d) (λ fields. each_in_turn (set_variable path p.decls) (all_unset p.decls) fields) cs e
      (λ fields is rest.
      each_kept (set_variable path p.decls) (FitDecls p.decls)
      (λ held m more fits step. found_fits (below path m.0) held (variable_of p.decls m.0) m.1 more (λ v named. variable_is p.decls m.0 v named) fits step)
      (all_unset p.decls) fields cs all_unset_fit rest)

  -- ---- all switches

  module _ (names : List (List ℕ)) where
    unset_everywhere : FitSwitches p.decls names (map (λ name. all_unset p.decls) names)
    unset_everywhere =
        record {
          switches = length-map names (λ (name : List ℕ). all_unset p.decls);
          contents = All-map (FitDecls p.decls) (λ (name : List ℕ). all_unset p.decls) names (λ k d lt. all_unset_fit);
        }

    one_set : (css : List (List Contents)) (s : ℕ) (cs : List Contents) → FitDecls p.decls cs → FitSwitches p.decls names css → FitSwitches p.decls names (slice_set css s cs)
    one_set css s cs new old = record { switches = length-set css s cs ∙ old.switches; contents = All-set (FitDecls p.decls) css s cs new old.contents }

    switch_fits : (path : List ℕ) (css : List (List Contents)) (o : Option ℕ) (d : Data) (more : List (List Contents)) → FitSwitches p.decls names css
        → set_numbered path p.decls css o d ≡ Ok more → FitSwitches p.decls names more
    switch_fits path css None d more fits e = absurd (cc e)
    switch_fits path css (Some s) d more fits e =
        read_then (variables_at path p.decls d) (λ cs. Ok (slice_set css s cs)) more e
        (λ cs is last. subst (FitSwitches p.decls names) (ok_same _ _ last) (one_set css s cs (variables_fit path d cs is) fits))

    file_fits : (d : Data) (css : List (List Contents)) → control_of p.decls names d ≡ Ok css → FitSwitches p.decls names css
    unfolding control_of
    file_fits d css e =
        read_then (object_at [] d) (λ fields. each_in_turn (set_switch p.decls names) (map (λ name. all_unset p.decls) names) fields) css e
        (λ fields is rest.
        each_kept (set_switch p.decls names) (FitSwitches p.decls names)
        (λ held m more fits step. switch_fits (below [] m.0) held (number_of names m.0) m.1 more fits step)
        (map (λ name. all_unset p.decls) names) fields css unset_everywhere rest)

pub files_fit : FilesFit
files_fit = record { read = λ p typed names file css e. file_fits p typed names file css e; unset = λ p typed names. unset_everywhere p typed names }
