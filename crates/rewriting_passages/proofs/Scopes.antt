-- What names stand for in the meaning is the same with other values, and so are the names that are declared.
use Rattle.std.proofs.Common.{◌≡◌, ℕ, List, [], ◌∷◌, cond, refl, ap, ap₂, ◌∙◌, subst, sym}
use Rattle.std.specs.List.{AllZip, AllByRecursion}
use Rattle.lex_text.specs.Names.{same_text}
use Rattle.p4_tree.specs.Tree.{Local, Control, Top, constant, typedef}
use Rattle.p4_meaning.specs.Scope as meaning
use Rattle.p4_meaning.specs.Scope.{roots_of, own_names, names_in}
use Rattle.p4_meaning.specs.Under.{behind_top, behind_tops, behind_local, behind_locals, in_control}
use Rattle.p4_meaning.specs.Parts.{scope_at_parser, scope_at_control}
use Rattle.p4_typing_laws.specs.Plain.{HasName, HaveNames}
use Rattle.rewriting_laws.specs.Standing.{MayStandFor}
use Rattle.rewritten_programs.specs.Rewritten.{LocalRewritten, in_action, in_table, local_register_stays, local_const_stays, in_local_var, ControlRewritten, TopRewritten, constant_stays, typedef_stays, header_stays, struct_stays, register_stays, parser_stays, in_control as in_a_control}
use Rattle.rewriting_rules.proofs.Programs.{TopsRewritten, name_same}
use Rattle.rewriting_meaning.proofs.Acts.{names_stay}

abbrev pub LocalsRewritten : List Local → List Local → Type 0
LocalsRewritten = AllZip (LocalRewritten MayStandFor)

-- ---- in a control

own_same : (ls ms : List Local) → LocalsRewritten ls ms → own_names ms ≡ own_names ls
own_same [] [] r = refl
own_same [] (m ∷ ms) r = absurd r
own_same (l ∷ ls) [] r = absurd r
own_same (l ∷ ls) (m ∷ ms) r = one l m r.0 (own_same ls ms r.1)
  where
    one : (l m : Local) → LocalRewritten MayStandFor l m → own_names ms ≡ own_names ls → own_names (m ∷ ms) ≡ own_names (l ∷ ls)
    one _ _ (in_action p r) h = ap₂ (λ x (xs : List (List ℕ)). x ∷ xs) (ap (λ a. a.name) r.rest) h
    one _ _ (in_table p r) h = ap₂ (λ x (xs : List (List ℕ)). x ∷ xs) (ap (λ t. t.name) r.rest) h
    one _ _ (local_register_stays p g) h = ap (λ (xs : List (List ℕ)). g.name ∷ xs) h
    one _ _ (local_const_stays p t x e) h = h
    one _ _ (in_local_var p t x r) h = h

pub local_behind : (sc : meaning.Scope) (l m : Local) → LocalRewritten MayStandFor l m → behind_local sc m ≡ behind_local sc l
local_behind sc _ _ (in_action p r) = refl
local_behind sc _ _ (in_table p r) = refl
local_behind sc _ _ (local_register_stays p g) = refl
local_behind sc _ _ (local_const_stays p t x e) = refl
local_behind sc _ _ (in_local_var p t x r) = refl

pub locals_behind : (ls ms : List Local) → LocalsRewritten ls ms → (sc : meaning.Scope) → behind_locals sc ms ≡ behind_locals sc ls
locals_behind [] [] r sc = refl
locals_behind [] (m ∷ ms) r sc = absurd r
locals_behind (l ∷ ls) [] r sc = absurd r
locals_behind (l ∷ ls) (m ∷ ms) r sc = ap (λ (sd : meaning.Scope). behind_locals sd ms) (local_behind sc l m r.0) ∙ locals_behind ls ms r.1 (behind_local sc l)

-- at the beginning of a control
pub begin_same : (h m n : ℕ) (sc : meaning.Scope) (c d : Control) → ControlRewritten MayStandFor c d → in_control h m n sc d ≡ in_control h m n sc c
begin_same h m n sc c d r =
    ap (λ (e : Control). record sc { roots = roots_of e.params h m n; control = e.name; own = own_names d.locals }) r.rest
    ∙ ap (λ (xs : List (List ℕ)). record sc { roots = roots_of c.params h m n; control = c.name; own = xs }) (own_same c.locals d.locals r.locals)

-- ---- along a program

top_behind : (sc : meaning.Scope) (t u : Top) → TopRewritten MayStandFor t u → behind_top sc u ≡ behind_top sc t
top_behind sc _ _ (constant_stays p t x e) = refl
top_behind sc _ _ (typedef_stays p t x) = refl
top_behind sc _ _ (header_stays p x fs) = refl
top_behind sc _ _ (struct_stays p x fs) = refl
top_behind sc _ _ (register_stays p g) = refl
top_behind sc _ _ (parser_stays p d) = refl
top_behind sc _ _ (in_a_control p r) = refl

pub tops_behind : (ts us : List Top) → TopsRewritten ts us → (sc : meaning.Scope) → behind_tops sc us ≡ behind_tops sc ts
tops_behind [] [] r sc = refl
tops_behind [] (u ∷ us) r sc = absurd r
tops_behind (t ∷ ts) [] r sc = absurd r
tops_behind (t ∷ ts) (u ∷ us) r sc = ap (λ (sd : meaning.Scope). behind_tops sd us) (top_behind sc t u r.0) ∙ tops_behind ts us r.1 (behind_top sc t)

pub parser_sight : (ts us : List Top) → TopsRewritten ts us → (sc : meaning.Scope) (x : List ℕ) → scope_at_parser sc us x ≡ scope_at_parser sc ts x
parser_sight [] [] r sc x = refl
parser_sight [] (u ∷ us) r sc x = absurd r
parser_sight (t ∷ ts) [] r sc x = absurd r
parser_sight (t ∷ ts) (u ∷ us) r sc x = one t u r.0 (λ sd. parser_sight ts us r.1 sd x)
  where
    one : (t u : Top) → TopRewritten MayStandFor t u → ((sd : meaning.Scope) → scope_at_parser sd us x ≡ scope_at_parser sd ts x) → scope_at_parser sc (u ∷ us) x ≡ scope_at_parser sc (t ∷ ts) x
    one _ _ (constant_stays p t y e) h = h (behind_top sc (constant p t y e))
    one _ _ (typedef_stays p t y) h = h (behind_top sc (typedef p t y))
    one _ _ (header_stays p y fs) h = h sc
    one _ _ (struct_stays p y fs) h = h sc
    one _ _ (register_stays p g) h = h sc
    one _ _ (parser_stays p d) h = ap (λ (sd : meaning.Scope). cond (same_text d.name x) sc sd) (h sc)
    one _ _ (in_a_control p r) h = h sc

pub control_sight : (ts us : List Top) → TopsRewritten ts us → (sc : meaning.Scope) (x : List ℕ) → scope_at_control sc us x ≡ scope_at_control sc ts x
control_sight [] [] r sc x = refl
control_sight [] (u ∷ us) r sc x = absurd r
control_sight (t ∷ ts) [] r sc x = absurd r
control_sight (t ∷ ts) (u ∷ us) r sc x = one t u r.0 (λ sd. control_sight ts us r.1 sd x)
  where
    one : (t u : Top) → TopRewritten MayStandFor t u → ((sd : meaning.Scope) → scope_at_control sd us x ≡ scope_at_control sd ts x) → scope_at_control sc (u ∷ us) x ≡ scope_at_control sc (t ∷ ts) x
    one _ _ (constant_stays p t y e) h = h (behind_top sc (constant p t y e))
    one _ _ (typedef_stays p t y) h = h (behind_top sc (typedef p t y))
    one _ _ (header_stays p y fs) h = h sc
    one _ _ (struct_stays p y fs) h = h sc
    one _ _ (register_stays p g) h = h sc
    one _ _ (parser_stays p d) h = h sc
    one _ _ (in_a_control {c = c} {d = d} p r) h =
        ap₂ (λ (y : List ℕ) (sd : meaning.Scope). cond (same_text y x) sc sd) (name_same c d r) (h sc)

-- ---- what is asked of names

module _ (Thing Value : List ℕ → Type 0) where
  local_named : (l m : Local) → LocalRewritten MayStandFor l m → HasName Thing Value l → HasName Thing Value m
  local_named _ _ (in_action p r) h = subst Thing (sym (ap (λ a. a.name) r.rest)) h
  local_named _ _ (in_table p r) h = subst Thing (sym (ap (λ t. t.name) r.rest)) h
  local_named _ _ (local_register_stays p g) h = h
  local_named _ _ (local_const_stays p t x e) h = h
  local_named _ _ (in_local_var p t x r) h = h

  pub locals_named : (ls ms : List Local) → LocalsRewritten ls ms → AllByRecursion (HasName Thing Value) ls → AllByRecursion (HasName Thing Value) ms
  locals_named [] [] r h = tt
  locals_named [] (m ∷ ms) r h = absurd r
  locals_named (l ∷ ls) [] r h = absurd r
  locals_named (l ∷ ls) (m ∷ ms) r h = (local_named l m r.0 h.0, locals_named ls ms r.1 h.1)

  pub tops_named : (ts us : List Top) → TopsRewritten ts us → HaveNames Thing Value ts → HaveNames Thing Value us
  tops_named [] [] r h = tt
  tops_named [] (u ∷ us) r h = absurd r
  tops_named (t ∷ ts) [] r h = absurd r
  tops_named (t ∷ ts) (u ∷ us) r h = one t u r.0 h (tops_named ts us r.1)
    where
      one : (t u : Top) → TopRewritten MayStandFor t u → HaveNames Thing Value (t ∷ ts) → (HaveNames Thing Value ts → HaveNames Thing Value us) → HaveNames Thing Value (u ∷ us)
      one _ _ (constant_stays p t y e) h more = (h.0, more h.1)
      one _ _ (typedef_stays p t y) h more = more h
      one _ _ (header_stays p y fs) h more = more h
      one _ _ (struct_stays p y fs) h more = more h
      one _ _ (register_stays p g) h more = (h.0, more h.1)
      one _ _ (parser_stays p d) h more = more h
      one _ _ (in_a_control {c = c} {d = d} p r) h more = ((locals_named c.locals d.locals r.locals h.0.0, subst (AllByRecursion Value) (sym (names_stay r.apply)) h.0.1), more h.1)
