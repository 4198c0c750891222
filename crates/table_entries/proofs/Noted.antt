-- An index notes where one more entry stands.
use Rattle.std.proofs.Common.{◌≡◌, ℕ, zero, suc, ◌-◌, ◌<◌, List, [], ◌∷◌, ◌++◌, length, get_or, Bool, true, false, cond, Option, Some, None, refl, sym, ap, subst, ◌∙◌, arith, Bor}
use Rattle.std.specs.Prelude.{nat_eq, nat_lt, is_some, if◌then◌else◌}
use Rattle.std.specs.Option.{option_map, option_or}
use Rattle.std.specs.Global.{Vec}
use Rattle.std.specs.List.{AllByRecursion}
use Rattle.std.specs.Cmp.Lexicographic.{pointwise, bytes_decides, lists_equiv}
use Rattle.std.specs.Ordering.{nat_cmp, is_eq}
use Rattle.std.specs.declared.cmp.Ordering.{Ordering}
use Rattle.std.specs.BTreeMap as tree
use Rattle.std.specs.HashMap as hash
use Rattle.std.specs.Map.{lookup, IsKeyTest, AreApart, KeepsOthers}
use Rattle.std.specs.declared.cmp.Reverse.{Reverse}
use Rattle.std.proofs.lemmas.Bool.{false≢true, eqb-true}
use Rattle.std.proofs.lemmas.Cmp.{nat_eq_equiv}
use Rattle.table_entries.specs.Entries.{Entry, Act, act_in}
use Rattle.table_entries.specs.View.{act_of}
use Rattle.table_entries.specs.Walk.{lent}
use Rattle.table_entries.specs.Signs.{signs_of, number_act, list_act, sign_act}
use Rattle.table_entries.specs.Index.{place_in, asks, has_rank, first_act, first_told, priority_place}
use Rattle.table_entries.specs.declared.entry.Act as code_act
use Rattle.table_shapes.specs.declared.shape.KeyShape.{KeyShape}
use Rattle.table_entries.specs.declared.signs.Signs.{Signs}

-- ---- where something stands

-- it stands in the list, and passes
pub stands : {A : Type 0} (p : A → Bool) (xs : List A) (i : ℕ) (d : A) → place_in p xs ≡ Some i → (i < length xs) × (p (get_or xs i d) ≡ true)
stands p [] i d is = absurd (cc is)
stands p (x ∷ xs) i d is = go (λ j at. stands p xs j d at) (p x) refl (place_in p xs) refl is
  where
    go : ((j : ℕ) → place_in p xs ≡ Some j → (j < length xs) × (p (get_or xs j d) ≡ true)) → (b : Bool) → p x ≡ b → (o : Option ℕ) → place_in p xs ≡ o → (if b then Some 0 else option_map suc o) ≡ Some i → (i < suc (length xs)) × (p (get_or (x ∷ xs) i d) ≡ true)
    go rest true px o at e = subst (λ (j : ℕ). (j < suc (length xs)) × (p (get_or (x ∷ xs) j d) ≡ true)) {x = 0} (cc e) (omega arith, px)
    go rest false px None at e = absurd (cc e)
    go rest false px (Some j) at e =
        let h = rest j at in
        let lt = h.0 in
        let more : suc j < suc (length xs) = omega (arith, lt) in
        subst (λ (k : ℕ). (k < suc (length xs)) × (p (get_or (x ∷ xs) k d) ≡ true)) {x = suc j} (cc e) (more, h.1)

-- it stands nowhere, and none passes
pub nowhere : {A : Type 0} (p : A → Bool) (xs : List A) → place_in p xs ≡ None → AllByRecursion (λ x. p x ≡ false) xs
nowhere p [] is = tt
nowhere p (x ∷ xs) is = go (λ at. nowhere p xs at) (p x) refl (place_in p xs) refl is
  where
    go : (place_in p xs ≡ None → AllByRecursion (λ y. p y ≡ false) xs) → (b : Bool) → p x ≡ b → (o : Option ℕ) → place_in p xs ≡ o → (if b then Some 0 else option_map suc o) ≡ None → (p x ≡ false) × AllByRecursion (λ y. p y ≡ false) xs
    go rest true px o at e = absurd (cc e)
    go rest false px (Some j) at e = absurd (cc e)
    go rest false px None at e = (px, rest at)

-- one more, behind the others
pub place_push : {A : Type 0} (p : A → Bool) (xs : List A) (x : A) → place_in p (xs ++ x ∷ []) ≡ option_or (place_in p xs) (if p x then Some (length xs) else None)
place_push p [] x = go (p x)
  where
    go : (b : Bool) → (if b then Some 0 else option_map suc None) ≡ option_or None (if b then Some 0 else None)
    go true = refl
    go false = refl
place_push p (y ∷ ys) x = ap (λ (o : Option ℕ). if p y then Some 0 else option_map suc o) (place_push p ys x) ∙ go (p y) (place_in p ys) (p x)
  where
    go : (b : Bool) (o : Option ℕ) (c : Bool) → (if b then Some 0 else option_map suc (option_or o (if c then Some (length ys) else None))) ≡ option_or (if b then Some 0 else option_map suc o) (if c then Some (suc (length ys)) else None)
    go true o c = refl
    go false (Some j) c = refl
    go false None true = refl
    go false None false = refl

-- ---- what the first one runs

pub lent_some : {A : Type 0} (o : Option (Bor A)) (p : Option A) → lent o ≡ p → is_some o ≡ is_some p
lent_some None p is = ap is_some is
lent_some (Some x) p is = ap is_some is

-- something is told exactly where some entry passes
pub seen_some : (o : Option code_act.Act) (p : Option Act) → option_map act_of o ≡ p → is_some o ≡ is_some p
seen_some None p is = ap is_some is
seen_some (Some a) p is = ap is_some is

pub some_stands : (p : Entry → Bool) (es : List Entry) → is_some (first_act p es) ≡ is_some (place_in p es)
some_stands p [] = refl
some_stands p (e ∷ es) = go (p e) (place_in p es) (some_stands p es)
  where
    go : (b : Bool) (o : Option ℕ) → is_some (first_act p es) ≡ is_some o → is_some (if b then Some (act_in e) else first_act p es) ≡ is_some (if b then Some 0 else option_map suc o)
    go true o is = refl
    go false None is = is
    go false (Some i) is = is

-- ---- what maps note

pub no_one : {X : Type 0} (b : Bool) (o : Option X) → is_some o ≡ b → b ≡ false → o ≡ None
no_one b None h f = refl
no_one b (Some x) h f = absurd (false≢true (sym f ∙ sym h))

pub or_none : {X : Type 0} (o : Option X) → o ≡ option_or o None
or_none None = refl
or_none (Some x) = refl

-- a query for another key finds what it found
kept_by : {K X : Type 0} (eq : K → K → Bool) (test other : K → Bool) (old new : List (K × X)) → KeepsOthers eq test old new → IsKeyTest eq other → AreApart test other → lookup other new ≡ lookup other old
unfolding KeepsOthers
kept_by eq test other old new keeps is apart = keeps other is apart

module _ {S : Type 0} (m n : hash.HashMap ℕ code_act.Act S) (number : ℕ) (act : code_act.Act) where
  pub number_noted : number_act m number ≡ None → hash.Updates nat_eq m n number (Some act) → (q : ℕ) → number_act n q ≡ option_or (number_act m q) (if nat_eq q number then Some act else None)
  number_noted none up q = up.0 q ∙ ap (λ (b : Bool). cond b (Some act) (number_act m q)) (nat_eq_equiv.symm number q) ∙ go (nat_eq q number) refl (number_act m q) refl
    where
      go : (b : Bool) → nat_eq q number ≡ b → (o : Option code_act.Act) → number_act m q ≡ o → cond b (Some act) o ≡ option_or o (if b then Some act else None)
      go true e None at = refl
      go true e (Some other) at = absurd (cc (sym none ∙ sym (ap (number_act m) (eqb-true q number e)) ∙ at))
      go false e None at = refl
      go false e (Some other) at = refl

module _ {S : Type 0} (m n : hash.HashMap (Vec ℕ) code_act.Act S) (sign : Vec ℕ) (act : code_act.Act) where
  abbrev eq : Vec ℕ → Vec ℕ → Bool
  eq x y = pointwise nat_eq x.items y.items

  pub list_noted : list_act m sign.items ≡ None → hash.Updates eq m n sign (Some act) → (s : List ℕ) → list_act n s ≡ option_or (list_act m s) (if pointwise nat_eq s sign.items then Some act else None)
  list_noted none up s = go (pointwise nat_eq s sign.items) refl
    where
      go : (b : Bool) → pointwise nat_eq s sign.items ≡ b → list_act n s ≡ option_or (list_act m s) (if b then Some act else None)
      go true e =
          let is : s ≡ sign.items = (bytes_decides s sign.items).0 e in
          ap (list_act n) is ∙ up.1 ∙ sym (ap (λ (o : Option code_act.Act). option_or o (Some act)) (ap (list_act m) is ∙ none))
      go false e =
          kept_by eq (eq sign) (λ k. pointwise nat_eq s k.items) m.entries n.entries up.3
          (λ x y h. (lists_equiv nat_eq_equiv).congr s x.items y.items h)
          (λ k h. ap (λ (l : List ℕ). pointwise nat_eq s l) (sym ((bytes_decides sign.items k.items).0 h)) ∙ e)
          ∙ or_none (list_act m s)

pub equal_ranks : (p q : ℕ) → is_eq (nat_cmp p q) ≡ nat_eq p q
equal_ranks p q = go (nat_lt p q) (nat_eq p q) refl refl
  where
    go : (l e : Bool) → nat_lt p q ≡ l → nat_eq p q ≡ e → is_eq (nat_cmp p q) ≡ e
    go l e h g = grind (arith, h, g)

module _ (m n : tree.BTreeMap (Reverse ℕ) ℕ) (rank : Reverse ℕ) (place : ℕ) where
  abbrev cmp : Reverse ℕ → Reverse ℕ → Ordering
  cmp x y = nat_cmp y.0 x.0

  pub priority_noted : tree.get cmp m rank ≡ None → tree.Updates cmp m n rank (Some place) → (p : ℕ) → priority_place n p ≡ option_or (priority_place m p) (if nat_eq p rank.0 then Some place else None)
  priority_noted none up p = up.0 (record { 0 = p }) ∙ ap (λ (b : Bool). cond b (Some place) (priority_place m p)) (equal_ranks p rank.0) ∙ go (nat_eq p rank.0) refl (priority_place m p) refl
    where
      go : (b : Bool) → nat_eq p rank.0 ≡ b → (o : Option ℕ) → priority_place m p ≡ o → cond b (Some place) o ≡ option_or o (if b then Some place else None)
      go true e None at = refl
      go true e (Some j) at = absurd (cc (sym none ∙ sym (ap (priority_place m) (eqb-true p rank.0 e)) ∙ at))
      go false e None at = refl
      go false e (Some j) at = refl

-- ---- one more entry

-- what the first one runs, behind which one more stands
pub act_push : (p : Entry → Bool) (es : List Entry) (e : Entry) → first_act p (es ++ e ∷ []) ≡ option_or (first_act p es) (if p e then Some (act_in e) else None)
act_push p [] e = refl
act_push p (f ∷ fs) e = ap (λ (o : Option Act). if p f then Some (act_in f) else o) (act_push p fs e) ∙ go (p f)
  where
    go : (b : Bool) → (if b then Some (act_in f) else option_or (first_act p fs) (if p e then Some (act_in e) else None)) ≡ option_or (if b then Some (act_in f) else first_act p fs) (if p e then Some (act_in e) else None)
    go true = refl
    go false = refl

seen_or : (o : Option code_act.Act) (b : Bool) (act : code_act.Act) → option_map act_of (option_or o (if b then Some act else None)) ≡ option_or (option_map act_of o) (if b then Some (act_of act) else None)
seen_or None true act = refl
seen_or None false act = refl
seen_or (Some other) b act = refl

module _ (ks : List KeyShape) (m n : Signs) (sign : List ℕ) (act : code_act.Act) (e : Entry) where
  pub signs_pushed : sign ≡ signs_of e.keys → act_of act ≡ act_in e → ((s : List ℕ) → sign_act ks n s ≡ option_or (sign_act ks m s) (if pointwise nat_eq s sign then Some act else None)) → (t : Bool) (es : List Entry) → (t ≡ false) × ((s : List ℕ) → option_map act_of (sign_act ks m s) ≡ first_act (asks s) es) → (t ≡ false) × ((s : List ℕ) → option_map act_of (sign_act ks n s) ≡ first_act (asks s) (es ++ e ∷ []))
  signs_pushed is runs noted t es h = (
    h.0,
    λ s.
        ap (option_map act_of) (noted s)
        ∙ seen_or (sign_act ks m s) (pointwise nat_eq s sign) act
        ∙ ap (λ (o : Option Act). option_or o (if pointwise nat_eq s sign then Some (act_of act) else None)) (h.1 s)
        ∙ ap (λ (l : List ℕ). option_or (first_act (asks s) es) (if pointwise nat_eq s l then Some (act_of act) else None)) is
        ∙ ap (λ (a : Act). option_or (first_act (asks s) es) (if asks s e then Some a else None)) runs
        ∙ sym (act_push (asks s) es e),
  )

module _ (m n : tree.BTreeMap (Reverse ℕ) ℕ) (place : ℕ) (e : Entry) where
  pub priorities_pushed : ((p : ℕ) → priority_place n p ≡ option_or (priority_place m p) (if nat_eq p e.priority then Some place else None)) → (t : Bool) (es : List Entry) → (t ≡ true) × ((p : ℕ) → priority_place m p ≡ place_in (has_rank p) es) → place ≡ length es → (t ≡ true) × ((p : ℕ) → priority_place n p ≡ place_in (has_rank p) (es ++ e ∷ []))
  priorities_pushed noted t es h at = (
    h.0,
    λ p.
        noted p
        ∙ ap (λ (o : Option ℕ). option_or o (if nat_eq p e.priority then Some place else None)) (h.1 p)
        ∙ ap (λ (i : ℕ). option_or (place_in (has_rank p) es) (if nat_eq p e.priority then Some i else None)) at
        ∙ sym (place_push (has_rank p) es e),
  )

-- ---- of one length after another

-- nothing is told of one length, and so the first is that of the shorter ones
pub shorter : {A : Type 0} (told : ℕ → Option A) (n : ℕ) (o : Option (Bor A)) → lent o ≡ told n → is_some o ≡ false → (n ≡ 0 → ⊥) → first_told told (n - 1) ≡ first_told told n
shorter told zero o is none some = absurd (some refl)
shorter told (suc n) (Some x) is none some = absurd (false≢true (sym none))
shorter {A} told (suc n) None is none some =
    let one_less : suc n - 1 ≡ n = omega arith in
    ap (first_told told) one_less ∙ ap (λ (o : Option A). option_or o (first_told told n)) is
