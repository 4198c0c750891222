-- Before anything is loaded, tables take and hold the same with other values.
use Rattle.std.proofs.Common.{◌≡◌, ℕ, suc, List, [], ◌∷◌, map, Bool, cond, refl, ap₂, ◌∙◌}
use Rattle.std.specs.List.{AllZip}
use Rattle.lex_text.specs.Names.{same_text}
use Rattle.p4_tree.specs.Tree.{Program}
use Rattle.p4_meaning.specs.Actions.{Action}
use Rattle.p4_meaning.specs.Tables.{Key, Table, Chosen}
use Rattle.p4_meaning.specs.Parts.{parts_of}
use Rattle.p4_rules.specs.ProgramRules.{IsWellTyped}
use Rattle.p4_scopes.specs.Scopes.{core}
use Rattle.p4_typing_laws.proofs.Fine.{typed_fine}
use Rattle.value_shapes.specs.declared.values.Holder.TheVariants.{Keys, Params}
use Rattle.value_shapes.specs.declared.values.ValueShape.{ValueShape}
use Rattle.table_shapes.specs.Shapes.{ActionShape}
use Rattle.table_shapes.specs.declared.shape.KeyShape.{KeyShape}
use Rattle.p4_tables.specs.State.{Held}
use Rattle.p4_tables.specs.Programs.{kind_of, no_value, key_shapes, action_place, values_at, table_before, tables_before, keys_hold, params_hold, state_before}
use Rattle.rewriting_laws.specs.Standing.{MayStandFor}
use Rattle.rewritten_programs.specs.Rewritten.{ProgramRewritten}
use Rattle.rewriting_rules.proofs.Knows.{core_knows}
use Rattle.rewriting_passages.specs.Passages.{ActionStands, TableStands, PartsStand}
use Rattle.rewriting_passages.proofs.Passages.{passages_stay}
use Rattle.rewriting_tables.specs.Tables.{TablesStay}
use Rattle.rewriting_tables.proofs.Values.{tops_same}

-- ---- numbers

place_same : (as' bs : List Action) → AllZip ActionStands as' bs → (x : List ℕ) → action_place bs x ≡ action_place as' x
place_same [] [] h x = refl
place_same [] (b ∷ bs) h x = absurd h
place_same (a ∷ as') [] h x = absurd h
place_same (a ∷ as') (b ∷ bs) h x = ap₂ (λ (y : List ℕ) (n : ℕ). cond (same_text y x) 0 (suc n)) h.0.name (place_same as' bs h.1 x)

-- ---- keys

abbrev kinds : List Key → List (List ℕ)
kinds ks = map (λ (k : Key). k.kind) ks

abbrev shape_of : (kind : List ℕ) → ValueShape → KeyShape
shape_of x v = record { kind = kind_of x; value = v }

keys_same : (ks ls : List Key) → kinds ls ≡ kinds ks → (vs : List ValueShape) → key_shapes ls vs ≡ key_shapes ks vs
keys_same [] [] e vs = refl
keys_same [] (l ∷ ls) e vs = absurd (cc e)
keys_same (k ∷ ks) [] e vs = absurd (cc e)
keys_same (k ∷ ks) (l ∷ ls) e [] =
    (let one : l.kind ≡ k.kind = cc e in
    let rest : kinds ls ≡ kinds ks = cc e in
    ap₂ (λ (x : List ℕ) (ss : List KeyShape). shape_of x no_value ∷ ss) one (keys_same ks ls rest []))
keys_same (k ∷ ks) (l ∷ ls) e (v ∷ vs) =
    (let one : l.kind ≡ k.kind = cc e in
    let rest : kinds ls ≡ kinds ks = cc e in
    ap₂ (λ (x : List ℕ) (ss : List KeyShape). shape_of x v ∷ ss) one (keys_same ks ls rest vs))

-- ---- tables

-- an action of a list, and a table, by the numbers of actions
abbrev action_by : (List ℕ → ℕ) → List (List ValueShape) → List ℕ → ActionShape
action_by place pss x = record { number = place x; params = values_at pss (place x) }

abbrev table_by : (List ℕ → ℕ) → List (List ValueShape) → List KeyShape → (actions : List (List ℕ)) → Chosen → (fixed : Bool) → Held
table_by place pss keys xs d fixed =
    record {
      shape = record { keys = keys; actions = map (action_by place pss) xs; written = place d.action; written_args = d.args; fixed = fixed };
      listed = [];
      default = record { action = place d.action; args = d.args };
    }

module _ (as' bs : List Action) (h : AllZip ActionStands as' bs) (pss : List (List ValueShape)) where
  table_same : (t u : Table) → TableStands t u → (vs : List ValueShape) → table_before bs pss u vs ≡ table_before as' pss t vs
  table_same t u r vs = λ i. table_by (λ x. place_same as' bs h x i) pss (keys_same t.keys u.keys r.kinds vs i) (r.actions i) (r.default i) (r.fixed i)

  all_same : (ts us : List Table) → AllZip TableStands ts us → (vss : List (List ValueShape)) → tables_before bs pss us vss ≡ tables_before as' pss ts vss
  all_same [] [] r vss = refl
  all_same [] (u ∷ us) r vss = absurd r
  all_same (t ∷ ts) [] r vss = absurd r
  all_same (t ∷ ts) (u ∷ us) r [] = ap₂ (λ (x : Held) (xs : List Held). x ∷ xs) (table_same t u r.0 []) (all_same ts us r.1 [])
  all_same (t ∷ ts) (u ∷ us) r (vs ∷ vss) = ap₂ (λ (x : Held) (xs : List Held). x ∷ xs) (table_same t u r.0 vs) (all_same ts us r.1 vss)

-- ---- programs

module _ (p q : Program) (r : ProgramRewritten MayStandFor p q) (well : IsWellTyped p) (stand : PartsStand (parts_of p) (parts_of q)) where
  keys : keys_hold q ≡ keys_hold p
  keys = tops_same Keys p.main p.tops q.tops core core_knows r.tops (typed_fine p well).0

  params : params_hold q ≡ params_hold p
  params = tops_same Params p.main p.tops q.tops core core_knows r.tops (typed_fine p well).0

  before : state_before q ≡ state_before p
  unfolding state_before
  before =
      ap₂ (λ (pss vss : List (List ValueShape)). tables_before (parts_of q).actions pss (parts_of q).tables vss) params keys
      ∙ all_same (parts_of p).actions (parts_of q).actions stand.actions (params_hold p) (parts_of p).tables (parts_of q).tables stand.tables (keys_hold p)

pub tables_stay : TablesStay
tables_stay p q r well names values =
    (let stand = (passages_stay p q r well names values).parts in
    record { actions = stand.actions; tables = stand.tables; before = before p q r well stand })
