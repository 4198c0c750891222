-- Tables and numbers are few.
use Rattle.std.proofs.Common.{◌≡◌, ℕ, zero, suc, ◌+◌, ◌≤◌, List, [], ◌∷◌, ◌++◌, map, length, Bool, true, false, if◌then◌else◌, ◌||◌, Option, Some, None, refl, sym, ap, ◌∙◌, subst, arith, nat_eq, nat_lt}
use Rattle.std.specs.List.{AllByRecursion}
use Rattle.indus_tree.specs.Tree as indus
use Rattle.indus_tree.specs.Tree.{Expr, Exprs, num, flag, read, count, index, member, negation, inversion, binary, cast, Shape, one, list, set, dict, Decl, Property, block_from}
use Rattle.indus_tree.specs.State.{lookup, shape_size}
use Rattle.indus_tree.specs.declared.tree.DeclKind.{DeclKind}
use Rattle.indus_tree.specs.declared.tree.DeclKind.TheVariants.{Tele, Sensor, Header, Control}
use Rattle.indus_rules.specs.Rules.{IsWellTyped, bad_width, bad_shape}
use Rattle.indus_types.specs.Sums.{is_v, size_in, size_of, found_list, shape_is_list, is_list, block_weight}
use Rattle.indus_types.proofs.Widths.{neither}
use Rattle.lower_lists.specs.Names.{item_name, count_name, is_plain}
use Rattle.lower_lists.specs.Flat.{flat_of}
use Rattle.flat_laws.specs.Numbered.{ArePlain, numbered}
use Rattle.lowered_code.specs.Expressions.{read_decl}
use Rattle.lowered_code.specs.Reads.{reads_by_kind, name_reads}
use Rattle.lowered_code.specs.Statements.{stmt_reads, behind, stmt_end, block_end, control_kind, read_lookups, numbered_reads, stmt_numbers, block_numbers, lookups_in, block_lookups}
use Rattle.lowered_code.proofs.LookupReads.{lookup_name}
use Rattle.lowered_code.proofs.Served.{lookups_both}
use Rattle.lookup_tables.specs.Tables.{Lookup}
use Rattle.whole_properties.specs.Whole.{decls, init, tele, check, tele_first, check_first}
use Rattle.whole_properties.specs.Few.{lookups_of, TablesAreFew, NumbersAreFew}
use Rattle.whole_properties.proofs.Once.{found_all, name_found}
use Rattle.whole_properties.proofs.Declarations.{shapely, numbered_all}
use Rattle.whole_properties.proofs.Numbering.{lookup_of}
use Rattle.whole_properties.proofs.TextReads.{block_of, block_light}
use Rattle.whole_properties.proofs.ReadCounts.{counted, with_few, AreCounted}
use Rattle.whole_properties.proofs.BlockCounts.{stmt_count, block_count, block_few}
use Rattle.whole_properties.proofs.PlainNames.{item_first, count_first, not_plain}

-- ---- the lookups of one variable

module _ (v : List ℕ) where
  -- a read of the variable
  abbrev is_read : Expr → ℕ
  is_read (read p x) = is_v v x
  is_read (index p x ks) = is_v v x
  is_read (member p ks x) = is_v v x
  is_read _ = 0

  abbrev looked : List (ℕ × Decl) → ℕ
  looked [] = 0
  looked (l ∷ ls) = is_v v l.1.name + looked ls

  looked_both : (xs ys : List (ℕ × Decl)) → looked (xs ++ ys) ≡ looked xs + looked ys
  looked_both [] ys = omega arith
  looked_both (x ∷ xs) ys = let r = looked_both xs ys in omega (arith, r)

  of_control : (c : List ℕ) (ls : List (ℕ × Decl)) → lookups_of v (map (lookup_of c) ls) ≡ looked ls
  of_control c [] = refl
  of_control c (l ∷ ls) = ap (λ n. is_v v l.1.name + n) (of_control c ls)

  of_both : (xs ys : List Lookup) → lookups_of v (xs ++ ys) ≡ lookups_of v xs + lookups_of v ys
  of_both [] ys = omega arith
  of_both (x ∷ xs) ys = let r = of_both xs ys in omega (arith, r)

  module _ (ds : List Decl) where
    kind_looked : (k : DeclKind) (n : ℕ) (d : Decl) → looked (control_kind k n d) ≤ is_v v d.name
    kind_looked Tele n d = omega arith
    kind_looked Sensor n d = omega arith
    kind_looked Header n d = omega arith
    kind_looked Control n d = omega arith

    name_looked : (o : Option Decl) (n : ℕ) (x : List ℕ) → lookup ds x ≡ o → looked (read_lookups n o) ≤ is_v v x
    name_looked None n x e = omega arith
    name_looked (Some d) n x e = subst (λ y. looked (control_kind d.kind n d) ≤ is_v v y) (lookup_name ds x d e) (kind_looked d.kind n d)

    read_looked : (n : ℕ) (e : Expr) → looked (read_lookups n (read_decl ds e)) ≤ is_read e
    read_looked n (num p m) = omega arith
    read_looked n (flag p b) = omega arith
    read_looked n (read p x) = name_looked (lookup ds x) n x refl
    read_looked n (count p x) = omega arith
    read_looked n (index p x ks) = name_looked (lookup ds x) n x refl
    read_looked n (member p ks x) = name_looked (lookup ds x) n x refl
    read_looked n (negation p a) = omega arith
    read_looked n (inversion p a) = omega arith
    read_looked n (binary p o a b) = omega arith
    read_looked n (cast p w a) = omega arith

    reads_looked : (n : ℕ) (es : List Expr) → looked (lookups_in (numbered_reads ds n es)) ≤ counted is_read es
    reads_looked n [] = omega arith
    reads_looked n (e ∷ es) =
        let a = read_looked n e in
        let b = reads_looked (suc n) es in
        let c = looked_both (read_lookups n (read_decl ds e)) (lookups_in (numbered_reads ds (suc n) es)) in
        omega (arith, a, b, c)

    all_looked :
        (xs ys : List (ℕ × Option Decl)) →
        looked (lookups_in (xs ++ ys)) ≡ looked (lookups_in xs) + looked (lookups_in ys)
    all_looked xs ys = ap looked (lookups_both ds xs ys) ∙ looked_both (lookups_in xs) (lookups_in ys)

    mutual
      stmt_looked : (s : indus.Stmt) (n : ℕ) → looked (lookups_in (stmt_numbers ds s n)) ≤ stmt_count ds is_read s
      stmt_looked (indus.assign p x e) n = reads_looked n (stmt_reads ds (indus.assign p x e))
      stmt_looked (indus.cell p x i e) n = reads_looked n (stmt_reads ds (indus.cell p x i e))
      stmt_looked (indus.push p x e) n = omega arith
      stmt_looked (indus.choice p t a b) n =
          let s = indus.choice p t a b in
          let m = behind ds s n in
          let k = block_end ds a m in
          let x = reads_looked n (stmt_reads ds s) in
          let y = block_looked a m in
          let z = block_looked b k in
          let first = all_looked (numbered_reads ds n (stmt_reads ds s)) (block_numbers ds a m ++ block_numbers ds b k) in
          let second = all_looked (block_numbers ds a m) (block_numbers ds b k) in
          omega (arith, x, y, z, first, second)
      stmt_looked (indus.loop p xs ls a) n = omega arith
      stmt_looked (indus.reject p) n = omega arith
      stmt_looked (indus.report p m es) n = reads_looked n (stmt_reads ds (indus.report p m es))

      block_looked : (ss : indus.Stmts) (n : ℕ) → looked (block_lookups ds ss n) ≤ block_count ds is_read ss
      block_looked indus.done n = omega arith
      block_looked (indus.next s ss) n =
          let a = stmt_looked s n in
          let b = block_looked ss (stmt_end ds s n) in
          let c = all_looked (stmt_numbers ds s n) (block_numbers ds ss (stmt_end ds s n)) in
          omega (arith, a, b, c)

    kind_read :
        (k : DeclKind) (p : ℕ) (x : List ℕ) (l : List Expr) →
        counted is_read (reads_by_kind k (read p x) l) ≤ counted is_read l + is_v v x
    kind_read Tele p x l = omega arith
    kind_read Sensor p x l = with_few is_read (read p x) l
    kind_read Header p x l = omega arith
    kind_read Control p x l = with_few is_read (read p x) l

    name_read :
        (o : Option Decl) (p : ℕ) (x : List ℕ) (l : List Expr) →
        counted is_read (name_reads o (read p x) l) ≤ counted is_read l + is_v v x
    name_read None p x l = omega arith
    name_read (Some d) p x l = kind_read d.kind p x l

    are_read : is_plain v ≡ true → AreCounted ds is_read (is_v v) (is_v v)
    are_read plain =
        record {
          name = λ p x l. name_read (lookup ds x) p x l;
          key = λ p x ks. omega arith;
          holding = λ p ks x. omega arith;
          item = λ w i. ap (λ (b : Bool). if b then 1 else 0) (not_plain (item_name w i) v (item_first w i) plain);
          length = λ w. ap (λ (b : Bool). if b then 1 else 0) (not_plain (count_name w) v (count_first w) plain);
        }

pub tables_are_few : TablesAreFew
tables_are_few g v plain =
    let os = g.property.decls in
    let ds = decls g in
    let are = are_read v ds plain in
    let i = block_lookups ds (init g) 0 in
    let t = block_lookups ds (tele g) (tele_first g) in
    let c = block_lookups ds (check g) (check_first g) in
    let all = of_both v (map (lookup_of g.ingress) i) (map (lookup_of g.egress) t ++ map (lookup_of g.egress) c) in
    let some = of_both v (map (lookup_of g.egress) t) (map (lookup_of g.egress) c) in
    let ni = of_control v g.ingress i in
    let nt = of_control v g.egress t in
    let nc = of_control v g.egress c in
    let a = block_looked v ds (init g) 0 in
    let b = block_looked v ds (tele g) (tele_first g) in
    let d = block_looked v ds (check g) (check_first g) in
    let fi = block_few ds (is_read v) (is_v v) (is_v v) are os g.property.init [] in
    let ft = block_few ds (is_read v) (is_v v) (is_v v) are os g.property.tele [] in
    let fc = block_few ds (is_read v) (is_v v) (is_v v) are os g.property.check [] in
    let ei = block_of v os g.property.init in
    let et = block_of v os g.property.tele in
    let ec = block_of v os g.property.check in
    omega (arith, all, some, ni, nt, nc, a, b, d, fi, ft, fc, ei, et, ec)

-- ---- all reads

abbrev one_each : Expr → ℕ
one_each e = 1

counted_all : (l : List Expr) → counted one_each l ≡ length l
counted_all [] = refl
counted_all (e ∷ l) = let r = counted_all l in omega (arith, r)

module _ (ds : List Decl) where
  mutual
    stmt_ends : (s : indus.Stmt) (n : ℕ) → stmt_end ds s n ≡ n + stmt_count ds one_each s
    stmt_ends (indus.assign p x e) n = let r = counted_all (stmt_reads ds (indus.assign p x e)) in omega (arith, r)
    stmt_ends (indus.cell p x i e) n = let r = counted_all (stmt_reads ds (indus.cell p x i e)) in omega (arith, r)
    stmt_ends (indus.push p x e) n = omega arith
    stmt_ends (indus.choice p t a b) n =
        let s = indus.choice p t a b in
        let m = behind ds s n in
        let r = counted_all (stmt_reads ds s) in
        let x = block_ends a m in
        let y = block_ends b (block_end ds a m) in
        omega (arith, r, x, y)
    stmt_ends (indus.loop p xs ls a) n = omega arith
    stmt_ends (indus.reject p) n = omega arith
    stmt_ends (indus.report p m es) n = let r = counted_all (stmt_reads ds (indus.report p m es)) in omega (arith, r)

    block_ends : (ss : indus.Stmts) (n : ℕ) → block_end ds ss n ≡ n + block_count ds one_each ss
    block_ends indus.done n = omega arith
    block_ends (indus.next s ss) n = let x = stmt_ends s n in let y = block_ends ss (stmt_end ds s n) in omega (arith, x, y)

-- sensors and control variables are read by statements
abbrev kind_reads : DeclKind → ℕ
kind_reads Tele = 0
kind_reads Sensor = 1
kind_reads Header = 0
kind_reads Control = 1

abbrev decl_reads : Option Decl → ℕ
decl_reads None = 0
decl_reads (Some d) = kind_reads d.kind

kind_one : (k : DeclKind) → kind_reads k ≤ 1
kind_one Tele = omega arith
kind_one Sensor = omega arith
kind_one Header = omega arith
kind_one Control = omega arith

decl_one : (o : Option Decl) → decl_reads o ≤ 1
decl_one None = omega arith
decl_one (Some d) = kind_one d.kind

module _ (os : List Decl) (plain : ArePlain os) where
  abbrev ds : List Decl
  ds = numbered os

  abbrev of_name : List ℕ → ℕ
  of_name x = decl_reads (lookup ds x)

  kind_counted :
      (k : DeclKind) (p : ℕ) (x : List ℕ) (l : List Expr) →
      counted one_each (reads_by_kind k (read p x) l) ≤ counted one_each l + kind_reads k
  kind_counted Tele p x l = omega arith
  kind_counted Sensor p x l = with_few one_each (read p x) l
  kind_counted Header p x l = omega arith
  kind_counted Control p x l = with_few one_each (read p x) l

  name_counted :
      (o : Option Decl) (p : ℕ) (x : List ℕ) (l : List Expr) →
      counted one_each (name_reads o (read p x) l) ≤ counted one_each l + decl_reads o
  name_counted None p x l = omega arith
  name_counted (Some d) p x l = kind_counted d.kind p x l

  -- names that are not plain are those of the packet's variables
  plain_all :
      (es : List Decl) → ArePlain es →
      AllByRecursion (λ d. (d.kind ≡ Tele → ⊥) → is_plain d.name ≡ false → kind_reads d.kind ≡ 0) es
  plain_all [] p = tt
  plain_all (d ∷ es) p = (λ n e. absurd (let two : true ≡ false = sym p.0 ∙ e in cc), plain_all es p.1)

  none_of : (x : List ℕ) → is_plain x ≡ false → of_name x ≡ 0
  none_of x n = go (lookup ds x) refl
    where
      all : AllByRecursion (λ d. is_plain d.name ≡ false → kind_reads d.kind ≡ 0) ds
      all = numbered_all (λ d. is_plain d.name ≡ false → kind_reads d.kind ≡ 0) (λ p x t e. refl) os 0 (plain_all os plain)

      go : (o : Option Decl) → lookup ds x ≡ o → decl_reads o ≡ 0
      go None e = refl
      go (Some d) e = found_all (λ d. is_plain d.name ≡ false → kind_reads d.kind ≡ 0) ds all x d e (ap is_plain (name_found ds x d e) ∙ n)

  are_counted : AreCounted ds one_each of_name (λ x. 1)
  are_counted =
      record {
        name = λ p x l. name_counted (lookup ds x) p x l;
        key = λ p x ks. omega arith;
        holding = λ p ks x. omega arith;
        item = λ v i. none_of (item_name v i) (item_first v i);
        length = λ v. none_of (count_name v) (count_first v);
      }

  -- a block spends no more numbers than its text weighs
  block_spends :
      ((x : List ℕ) → is_list os x ≡ true → 1 ≤ size_of os x) → (ss : indus.Stmts) (n : ℕ) →
      block_end ds (block_from (flat_of os ss)) n ≤ n + block_weight os ss
  block_spends roomy ss n =
      let a = block_ends ds (block_from (flat_of os ss)) n in
      let b = block_few ds one_each of_name (λ x. 1) are_counted os ss [] in
      let c = block_light os roomy of_name (λ x. 1) (λ x. decl_one (lookup ds x)) (λ x. omega arith) ss in
      omega (arith, a, b, c)

-- a list has room for an item
size_roomy : (s : Shape) → bad_shape s ≡ false → shape_is_list s ≡ true → 1 ≤ shape_size s
size_roomy (one t) b i = absurd (cc)
size_roomy (list t n) b i = some n (neither (bad_width t) (nat_eq n 0) (neither (bad_width t || nat_eq n 0) (nat_lt 255 n) b).0).1
  where
    some : (n : ℕ) → nat_eq n 0 ≡ false → 1 ≤ n
    some zero e = absurd (cc)
    some (suc n) e = omega arith
size_roomy (set ks) b i = absurd (cc)
size_roomy (dict ks t) b i = absurd (cc)

list_roomy : (p : Property) → IsWellTyped p → (x : List ℕ) → is_list p.decls x ≡ true → 1 ≤ size_of p.decls x
list_roomy p typed x is = go (lookup p.decls x) refl is
  where
    go : (o : Option Decl) → lookup p.decls x ≡ o → found_list o ≡ true → 1 ≤ size_in o
    go None e i = absurd (cc)
    go (Some d) e i = size_roomy d.shape ((shapely p typed).sized x d e) i

pub numbers_are_few : NumbersAreFew
numbers_are_few g i =
    let p = g.property in
    let roomy = list_roomy p i.typed in
    let a = block_spends p.decls i.plain roomy p.init 0 in
    let b = block_spends p.decls i.plain roomy p.tele (tele_first g) in
    let c = block_spends p.decls i.plain roomy p.check (check_first g) in
    omega (arith, a, b, c)
