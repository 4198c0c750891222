-- Whole passages of a program with other values.
use Rattle.std.proofs.Common.{◌≡◌, ◌⊎◌, inl, inr, codes, ℕ, List, [], ◌∷◌, Option, Some, None, refl, sym, ap, ap₂, ◌∙◌, subst}
use Rattle.rule_tests.specs.Tests.{IsFine}
use Rattle.p4_tree.specs.Tree.{Control, Top, Program}
use Rattle.p4_tree.specs.declared.program.Param.{Param}
use Rattle.p4_meaning.specs.Statements.{Run, Ended, Calls as MeantCalls, no_calls, meaning_of}
use Rattle.p4_meaning.specs.Scope as meaning
use Rattle.p4_meaning.specs.Scope.{own_names}
use Rattle.p4_meaning.specs.Under as under
use Rattle.p4_meaning.specs.Under.{no_scope, stmts_under, behind_locals, settings_under}
use Rattle.p4_meaning.specs.Actions.{action_named, actions_of}
use Rattle.p4_meaning.specs.Tables.{Tables, calls_in, tables_of}
use Rattle.p4_meaning.specs.Parts.{Body, Parts, whole, body_of, body_in, control_named, control_in, named_in, scope_at_control, emits_of, parts_of}
use Rattle.p4_meaning.specs.Pass.{Registers, Queued, entered, entered_from, left, left_behind, parts_enter, parts_leave}
use Rattle.p4_meaning.specs.Laws.{AreListed}
use Rattle.p4_scopes.specs.Scopes.{Scope, value, declare, core}
use Rattle.p4_statement_rules.specs.declared.rule.Part.{Part}
use Rattle.p4_statement_rules.specs.declared.rule.Part.TheVariants as place
use Rattle.p4_declaration_rules.specs.Parsers.{way_access, with_ways}
use Rattle.p4_declaration_rules.specs.Controls.{in_control, control_tests, part_in}
use Rattle.p4_rules.specs.ProgramRules.{IsWellTyped}
use Rattle.p4_typing_laws.specs.Plain.{IsPlain, HavePlainNames, HavePlainValues}
use Rattle.p4_typing_laws.proofs.Fine.{typed_fine}
use Rattle.p4_typing_laws.proofs.FullNames.{knows_all, none_named}
use Rattle.p4_typing_laws.proofs.CountedNames.{Calls, IsNoAction, quiet_calls, core_calls, Nothing}
use Rattle.p4_typing_laws.proofs.CountedLocals.{IsNew, own_missing, own_new}
use Rattle.p4_typing_laws.proofs.CountedPassages.{program_bound}
use Rattle.passage_stores.specs.FitStores.{IsFitQueued}
use Rattle.passage_stores.specs.PassageStores.{parser_end_of, verify_run, ingress_run, egress_run, egress_end, compute_run}
use Rattle.passage_stores.specs.Sights.{control_rules, control_scope}
use Rattle.passage_stores.specs.SeenStores.{ControlSees, SeesAt}
use Rattle.passage_stores.specs.SeenPassages.{PassageSees}
use Rattle.passage_stores.proofs.PassageFits.{passage_stores_fit}
use Rattle.passage_stores.proofs.SeenBlocks.{turned_block}
use Rattle.passage_stores.proofs.SeenPassages.{each_passage_sees, here, parts, part_of}
use Rattle.rewriting_laws.specs.Standing.{MayStandFor}
use Rattle.rewritten_programs.specs.Rewritten.{ProgramRewritten}
use Rattle.rewriting_rules.proofs.Knows.{core_knows, ways_know, inside_knows}
use Rattle.rewriting_rules.proofs.Programs.{TopsRewritten, FoundRewritten, control_found, digests_same, stays_well_typed}
use Rattle.rewriting_meaning.specs.Sights.{IsSeen}
use Rattle.rewriting_meaning.proofs.Acts.{bare_same}
use Rattle.rewriting_passages.specs.Passages.{ProgramStands, PassagesStay}
use Rattle.rewriting_passages.proofs.Scopes.{locals_behind, begin_same, control_sight, tops_named}
use Rattle.rewriting_passages.proofs.Parts.{registers_same, actions_stand, none_there, tables_stand, headers_same, metadata_same, states_same}
use Rattle.rewriting_passages.proofs.Emits.{emits_same}
use Rattle.rewriting_passages.proofs.Found.{Lists, AreFound, IsFoundAt, found_at}
use Rattle.rewriting_passages.proofs.Owned.{OwnAction, OwnTable, IsBefore, behind_each, calls_stay, calls_same}
use Rattle.rewriting_passages.proofs.Controls.{IsSeenWhole, whole_same}

-- ---- what is called in a control

-- parameters call nothing
ways_calls : (qs : List Param) (s : Scope) → Calls Nothing Nothing s → Calls Nothing Nothing (with_ways s qs)
ways_calls [] s c = c
ways_calls (q ∷ qs) s c = ways_calls qs (declare s q.name (value (way_access q.way) q.ty)) (quiet_calls Nothing Nothing s c q.name (value (way_access q.way) q.ty) tt)

-- where nothing is declared that is called
outer_calls : (L T : List ℕ → ℕ → Type 0) (s : Scope) → Calls Nothing Nothing s → Calls L T s
outer_calls L T s c = record { functions = c.functions; actions = λ x ks m e. go x m (c.actions x ks m e); tables = λ x m e. absurd (c.tables x m e); inner = c.inner }
  where
    go : (x : List ℕ) (m : ℕ) → IsNoAction x m ⊎ Nothing x m → IsNoAction x m ⊎ L x m
    go x m (inl e) = inl e
    go x m (inr e) = absurd e

-- ---- a program, and its declarations with other values

module _ (p : Program) (us : List Top) (r : TopsRewritten p.tops us) (well : IsWellTyped p) (names : HavePlainNames p.tops) (values : HavePlainValues p.tops) where
  abbrev P : Parts
  P = parts_of p

  abbrev After : Program
  After = record p { tops = us }

  abbrev Q : Parts
  Q = parts_of After

  rewritten : ProgramRewritten MayStandFor p After
  rewritten = record { tops = r; rest = refl }

  abbrev Of : Lists
  Of = record { actions = P.actions; others = Q.actions; tables = P.tables; other_tables = Q.tables }

  first : AreFound Of core no_scope p.tops us
  first = record { knows = core_knows; calls = core_calls Nothing Nothing; find = λ c x q m. record { actions = refl; others = refl; tables = refl; other_tables = refl } }

  found : (k : ℕ) (c : Control) → control_in p k ≡ Some c → IsFoundAt Of p.main (control_rules p k) (control_scope p k) c (control_named us (named_in p.main k))
  found k c e = found_at Of p.main p.tops us r core no_scope first (typed_fine p well).0 names (named_in p.main k) c e

  -- ---- what a part does

  body_is : (h m n k : ℕ) (c : Control) (e : control_in p k ≡ Some c) → body_in h m n After k ≡ body_of h m n (control_scope p k) (Some (found k c e).after)
  body_is h m n k c e = ap₂ (λ (sc : meaning.Scope) (o : Option Control). body_of h m n sc o) (control_sight p.tops us r no_scope (named_in p.main k)) (found k c e).there

  none_after : (o q : Option Control) → FoundRewritten o q → o ≡ None → q ≡ None
  none_after None None h e = refl
  none_after None (Some d) h e = absurd h
  none_after (Some c) q h e = absurd (cc e)

  -- where no control is found nothing is done
  no_body : (h m n k : ℕ) → control_in p k ≡ None → body_in h m n After k ≡ body_in h m n p k
  no_body h m n k e =
      ap (λ (o : Option Control). body_of h m n (scope_at_control no_scope us (named_in p.main k)) o) (none_after (control_in p k) (control_named us (named_in p.main k)) (control_found p.tops us r (named_in p.main k)) e)
      ∙ sym (ap (λ (o : Option Control). body_of h m n (control_scope p k) o) e)

  module _ (h m n k : ℕ) (calls others : MeantCalls) (run : Run) (idle : (e : control_in p k ≡ None) → meaning_of others (whole (body_in h m n p k)) run ≡ meaning_of calls (whole (body_in h m n p k)) run)
      (seen : (c : Control) → control_in p k ≡ Some c → IsSeenWhole P calls others h m n (control_rules p k) (control_scope p k) c run)
    where
      part_same : meaning_of others (whole (body_in h m n After k)) run ≡ meaning_of calls (whole (body_in h m n p k)) run
      part_same = go (control_in p k) refl
        where
          go : (o : Option Control) → control_in p k ≡ o → meaning_of others (whole (body_in h m n After k)) run ≡ meaning_of calls (whole (body_in h m n p k)) run
          go None e = ap (λ (b : Body). meaning_of others (whole b) run) (no_body h m n k e) ∙ idle e
          go (Some c) e =
              (let f = found k c e in
              ap (λ (b : Body). meaning_of others (whole b) run) (body_is h m n k c e)
              ∙ (whole_same P calls others h m n (control_rules p k) (control_scope p k) c run f.after f.rewritten (part_in p.main c.name) f.fine (seen c e)
              ∙ sym (ap (λ (o : Option Control). meaning_of calls (whole (body_of h m n (control_scope p k) o)) run) e)))

  idle_same : (h m n k : ℕ) (calls others : MeantCalls) (run : Run) → control_in p k ≡ None → meaning_of others (whole (body_in h m n p k)) run ≡ meaning_of calls (whole (body_in h m n p k)) run
  idle_same h m n k calls others run e =
      ap (λ (o : Option Control). meaning_of others (whole (body_of h m n (control_scope p k) o)) run) e
      ∙ sym (ap (λ (o : Option Control). meaning_of calls (whole (body_of h m n (control_scope p k) o)) run) e)

  -- ---- verify and compute checksum

  checksum_seen : (k : ℕ) (run : Run) (c : Control) → control_in p k ≡ Some c → ControlSees P 0 1 9 (control_rules p k) (control_scope p k) c no_calls run → IsSeenWhole P no_calls no_calls 0 1 9 (control_rules p k) (control_scope p k) c run
  checksum_seen k run c e sees =
      (let f = found k c e in
      let s = control_rules p k in
      let sc = control_scope p k in
      let S = in_control s c in
      let SD = behind_locals (under.in_control 0 1 9 sc c) c.locals in
      record {
        sees = sees;
        body =
            turned_block (λ t. Unit {0}) (λ g t u d i. tt) no_calls SD (SeesAt P S SD) (IsSeen P no_calls no_calls) (λ t d u w v. (v.0, bare_same t SD u)) c.apply (part_in p.main c.name) S tt f.fine.1.1.1.0
            (meaning_of no_calls (settings_under (under.in_control 0 1 9 sc c) c.locals) run).0 sees.body;
      })

  checksum_same : (k : ℕ) (run : Run) → ((c : Control) → control_in p k ≡ Some c → ControlSees P 0 1 9 (control_rules p k) (control_scope p k) c no_calls run)
      → meaning_of no_calls (whole (body_in 0 1 9 After k)) run ≡ meaning_of no_calls (whole (body_in 0 1 9 p k)) run
  checksum_same k run sees = part_same 0 1 9 k no_calls no_calls run (idle_same 0 1 9 k no_calls no_calls run) (λ c e. checksum_seen k run c e (sees c e))

  -- ---- ingress and egress

  none_first : action_named P.actions (codes "NoAction") ≡ None
  none_first = none_named p.tops no_scope (codes "NoAction") refl names

  none_second : action_named Q.actions (codes "NoAction") ≡ None
  none_second = none_there P.actions Q.actions (actions_stand p.tops us r no_scope) (codes "NoAction") none_first

  module _ (held : Tables) (listed : AreListed P held) where
    abbrev Given : MeantCalls
    Given = calls_in P.actions P.tables held

    abbrev Others : MeantCalls
    Others = calls_in Q.actions Q.tables held

    apply_seen : (k : ℕ) (run : Run) (c : Control) → control_in p k ≡ Some c → ControlSees P 0 1 2 (control_rules p k) (control_scope p k) c Given run → IsSeenWhole P Given Others 0 1 2 (control_rules p k) (control_scope p k) c run
    apply_seen k run c e sees =
        (let f = found k c e in
        let g = part_in p.main c.name in
        let s = control_rules p k in
        let sc = control_scope p k in
        let S = in_control s c in
        let B = under.in_control 0 1 2 sc c in
        let SD = behind_locals B c.locals in
        let own = own_names c.locals in
        let keeps = (ways_know c.params s f.knows f.fine.1.0).core in
        let new : IsNew own = own_new own (with_ways s c.params) keeps (own_missing g c.locals (with_ways s c.params) f.fine.1.1.0) in
        let acts = actions_of sc f.ts in
        let bcts = actions_of sc f.us in
        let tabs = tables_of sc P.actions f.ts in
        let ubs = tables_of sc Q.actions f.us in
        let begins : IsBefore P S SD Of c.name own new held listed none_first none_second acts bcts tabs ubs (with_ways s c.params) B c.locals f.after.locals = record {
          knows = knows_all 0 1 2 sc c;
          owns = refl;
          calls = outer_calls _ _ (with_ways s c.params) (ways_calls c.params s f.calls);
          find = λ x q i. f.find x q;
        } in
        let end = behind_each P S SD Of c.name own new held listed none_first none_second acts bcts tabs ubs g c.locals f.after.locals f.rewritten.locals (with_ways s c.params) B begins f.plain f.fine.1.1.0 sees.locals in
        record {
          sees = sees;
          body =
              turned_block (λ t. Calls (OwnAction P S SD Of c.name own new held listed none_first none_second) (OwnTable P S SD Of c.name own new held listed none_first none_second) t)
              (calls_stay P S SD Of c.name own new held listed none_first none_second) Given SD (SeesAt P S SD) (IsSeen P Given Others)
              (λ t d u w v. (v.0, calls_same P S SD Of c.name own new held listed none_first none_second SD end.owns end.knows.control t w u v.1)) c.apply g S end.calls f.fine.1.1.1.0
              (meaning_of Given (settings_under B c.locals) run).0 sees.body;
        })

    apply_same : (k : ℕ) (run : Run) → ((c : Control) → control_in p k ≡ Some c → ControlSees P 0 1 2 (control_rules p k) (control_scope p k) c Given run)
        → meaning_of Others (whole (body_in 0 1 2 After k)) run ≡ meaning_of Given (whole (body_in 0 1 2 p k)) run
    apply_same k run sees = part_same 0 1 2 k Given Others run (idle_same 0 1 2 k Given Others run) (λ c e. apply_seen k run c e (sees c e))

  -- ---- what is emitted

  emitted_same : Q.emits ≡ P.emits
  emitted_same = go (control_in p 5) refl
    where
      go : (o : Option Control) → control_in p 5 ≡ o → emits_of (body_in 1 9 9 After 5).body ≡ emits_of (body_in 1 9 9 p 5).body
      go None e = ap (λ (b : Body). emits_of b.body) (no_body 1 9 9 5 e)
      go (Some c) e =
          (let f = found 5 c e in
          let s = control_rules p 5 in
          let sc = control_scope p 5 in
          let B = under.in_control 1 9 9 sc c in
          let d = f.after in
          let is : part_in p.main c.name ≡ place.Deparser = part_of p well names values 5 c (here p well names values 5 c e).1 place.Deparser (parts p well names values).deparser in
          let fine = subst (λ (g : Part). IsFine (control_tests g s c)) is f.fine in
          ap (λ (b : Body). emits_of b.body) (body_is 1 9 9 5 c e)
          ∙ (ap (λ (sd : meaning.Scope). emits_of (stmts_under (behind_locals sd d.locals) d.apply)) (begin_same 1 9 9 sc c d f.rewritten)
          ∙ (ap (λ (sd : meaning.Scope). emits_of (stmts_under sd d.apply)) (locals_behind c.locals d.locals f.rewritten.locals B)
          ∙ (emits_same f.rewritten.apply (in_control s c) (inside_knows place.Deparser s f.knows c fine) fine.1.1.1.0 (behind_locals B c.locals)
          ∙ sym (ap (λ (o : Option Control). emits_of (body_of 1 9 9 sc o).body) e)))))

  -- ---- both halves

  -- the parts, where all but what may do otherwise is the given program's
  abbrev Mixed : Parts
  Mixed = record P { actions = Q.actions; tables = Q.tables; verify = Q.verify; ingress = Q.ingress; egress = Q.egress; compute = Q.compute }

  mixed : Q ≡ Mixed
  mixed i =
      record {
        registers = registers_same p.tops us r no_scope i;
        headers = headers_same p us r i;
        metadata = metadata_same p us r i;
        states = states_same p us r i;
        actions = Q.actions;
        tables = Q.tables;
        verify = Q.verify;
        ingress = Q.ingress;
        egress = Q.egress;
        compute = Q.compute;
        emits = emitted_same i;
      }

  sight : PassageSees p
  sight = each_passage_sees p well names values

  enters_mixed : (held : Tables) → AreListed P held → (cells : Registers) (port : ℕ) (frame : List ℕ) → parts_enter Mixed held cells port frame ≡ parts_enter P held cells port frame
  unfolding parts_enter
  enters_mixed held l cells port frame =
      (let rest = (parser_end_of P port frame).reading.rest in
      let u = ingress_run P cells port frame in
      ap (λ (e : Ended). entered_from Mixed held rest e.0) (checksum_same 1 (verify_run P cells port frame) (λ c e. sight.verify c e cells port frame))
      ∙ ap (λ (e : Ended). entered P u.store rest e.0) (apply_same held l 2 u (λ c e. sight.ingress c e held cells port frame)))

  leaves_mixed : (held : Tables) → AreListed P held → (cells : Registers) (w : Queued) → IsFitQueued P w → parts_leave Mixed held cells w ≡ parts_leave P held cells w
  unfolding parts_leave
  leaves_mixed held l cells w fit =
      ap (λ (e : Ended). left_behind Mixed w.rest e.0) (apply_same held l 3 (egress_run cells w) (λ c e. sight.egress c e held cells w fit))
      ∙ ap (λ (e : Ended). left P w.rest (egress_end P held cells w) e.0.store) (checksum_same 4 (compute_run P held cells w) (λ c e. sight.compute c e held cells w fit))

  names_after : HavePlainNames us
  names_after = tops_named IsPlain (λ x. Unit {0}) p.tops us r names

  stands : ProgramStands p After
  stands =
      record {
        parts = record {
          registers = registers_same p.tops us r no_scope;
          headers = headers_same p us r;
          metadata = metadata_same p us r;
          states = states_same p us r;
          emits = emitted_same;
          actions = actions_stand p.tops us r no_scope;
          tables = tables_stand P.actions Q.actions (actions_stand p.tops us r no_scope) p.tops us r no_scope;
          digests = program_bound After (stays_well_typed p After rewritten well) names_after ∙ (digests_same p After rewritten (typed_fine p well) ∙ sym (program_bound p well names));
        };
        passages = record {
          enters = λ held l cells port frame. ap (λ (z : Parts). parts_enter z held cells port frame) mixed ∙ enters_mixed held l cells port frame;
          leaves = λ held l cells w fit. ap (λ (z : Parts). parts_leave z held cells w) mixed ∙ leaves_mixed held l cells w fit;
          queues = (passage_stores_fit p well).queued;
        };
        names = names_after;
        values = tops_named (λ x. Unit {0}) IsPlain p.tops us r values;
      }

pub passages_stay : PassagesStay
passages_stay p q r well names values = subst (λ (z : Program). ProgramStands p z) (sym r.rest) (stands p q.tops r.tops well names values)
