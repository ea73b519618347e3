-- What the computed test says of every walk: for any table and any printed list.
use mathlib.Core.Path.{◌≡◌, refl, sym, subst, ap, ◌∙◌}
use mathlib.Core.Bool.{Bool, true, false}
use mathlib.Core.List.{List, [], ◌∷◌, ◌++◌}
use mathlib.Core.Logic.{◌⊎◌, inl, inr, ⊎_elim}
use Prim.Native.Nat.{ℕ, zero, suc, ◌+◌, ◌*◌, ◌-◌, ◌≤◌, ◌<◌}
use native.Mathlib.Nat.{le_of_suc-le-suc, not-suc-le-zero, eq-or-lt_of_le}
use native.Mathlib.Omega.{arith}
use lib.Dec.{T, leb, eqb}
use lib.ListN.{length, take}
use lib.Seq.{get_or-take}
use borrow.Author.Tests.{eq-eqb, eqb-true, ltb-true}
use Rattle.logic.proofs.LoopLaws.{and_left, and_right, from_equal}
use Rattle.annex_c.specs.Codes.{Code, code, HasRow, Reading, symbol, early, begins, first_code, codes_of, escape_alone, meant, printed}
use Rattle.annex_c.specs.Meaning.{Bits, more, SoundReading, Means}
use Rattle.annex_c.specs.Tree.{tree, nodes, child, walk, walked}
use Rattle.annex_c.specs.Test.{go_on, by, ends_for, agrees, pair155, prior_agrees, priors_agree, table_agrees}

untrue : false ≡ true → ⊥
untrue e = subst T (sym e) tt

-- rows that all go on by a bit: with no bits none is read, and with bits those are read that go on by the first
first_none : (rows : List Code) → go_on rows ≡ true → first_code rows [] ≡ early
unfolding go_on first_code begins
first_none [] e = refl
first_none (code p s [] ∷ rows) e = absurd (untrue e)
first_none (code p s (c ∷ cs) ∷ rows) e = first_none rows (and_right _ _ e)

first_row : (p s : ℕ) (cs bs : List ℕ) (rest : List Code) (other : Reading) → other ≡ first_code rest bs → (x : Bool)
    → ◌≡◌ {A = Reading} (elim x [ true ↦ begins s cs bs other | false ↦ other ]) (first_code (elim x [ true ↦ code p s cs ∷ rest | false ↦ rest ]) bs)
unfolding first_code
first_row p s cs bs rest other e true = ap (begins s cs bs) e
first_row p s cs bs rest other e false = e

first_by : (rows : List Code) (b : ℕ) (bs : List ℕ) → go_on rows ≡ true → first_code rows (b ∷ bs) ≡ first_code (by b rows) bs
unfolding go_on first_code begins by
first_by [] b bs e = refl
first_by (code p s [] ∷ rows) b bs e = absurd (untrue e)
first_by (code p s (c ∷ cs) ∷ rows) b bs e = first_row p s cs bs (by b rows) (first_code rows (b ∷ bs)) (first_by rows b bs (and_right _ _ e)) (eqb c b)

-- the one row that ends here
first_ends : (s : ℕ) (rows : List Code) (bs : List ℕ) → ends_for s rows ≡ true → (symbol s bs ≡ first_code rows bs) × (s < 128)
unfolding ends_for first_code begins
first_ends s [] bs e = absurd (untrue e)
first_ends s (code p r [] ∷ []) bs e = (ap (λ (x : ℕ). symbol x bs) (sym (eqb-true r s (and_left _ _ e))), ltb-true s 128 (and_right _ _ e))
first_ends s (code p r [] ∷ row ∷ rows) bs e = absurd (untrue e)
first_ends s (code p r (c ∷ cs) ∷ rows) bs e = absurd (untrue e)

-- what is shown of a walk from node n of a tree u of m nodes: the rows say what it reads, it is sound, it stays inside, and k
-- bits are enough
record Right (k m : ℕ) (u : List ℕ) (n : ℕ) (rows : List Code) (bs : List ℕ) : Type 0 where
  pub same : walk u n bs ≡ first_code rows bs
  pub sound : SoundReading (walk u n bs)
  pub inside : walk (take (2 * m) u) n bs ≡ walk u n bs
  pub ends : k ≤ length bs → walk u n bs ≡ early → ⊥

bit : (b : ℕ) → b < 2 → (b ≡ 0) ⊎ (b ≡ 1)
bit zero h = inl refl
bit (suc zero) h = inr refl
bit (suc (suc b)) h = absurd (not-suc-le-zero (le_of_suc-le-suc (le_of_suc-le-suc h)))

own_child : (m : ℕ) (u : List ℕ) (n b : ℕ) → n < m → b < 2 → child (take (2 * m) u) n b ≡ child u n b
unfolding child
own_child m u n b l h = get_or-take (2 * m) u (2 * n + b) 0 (omega arith)

-- a child: a leaf, or a node that is right for the bits after this one
abbrev by_child : List ℕ → ℕ → List ℕ → Bool → Reading
by_child u v bs = elim [ true ↦ symbol (v - 128) bs | false ↦ walk u v bs ]

walk_bit : (u : List ℕ) (n b : ℕ) (bs : List ℕ) → walk u n (b ∷ bs) ≡ by_child u (child u n b) bs (leb 128 (child u n b))
unfolding walk
walk_bit u n b bs = refl

-- the same, of what a walk reads at a child
record RightBelow (k m : ℕ) (u : List ℕ) (v : ℕ) (x : Bool) (rows : List Code) (bs : List ℕ) : Type 0 where
  pub same : by_child u v bs x ≡ first_code rows bs
  pub sound : SoundReading (by_child u v bs x)
  pub inside : by_child (take (2 * m) u) v bs x ≡ by_child u v bs x
  pub ends : k ≤ length bs → by_child u v bs x ≡ early → ⊥

at_child : (k m : ℕ) (u : List ℕ) (v : ℕ) (rows : List Code) (bs : List ℕ) → Bits bs → (agrees k u m v rows ≡ true → Right k m u v rows bs)
    → (x : Bool) → (elim x [ true ↦ ends_for (v - 128) rows | false ↦ agrees k u m v rows ]) ≡ true → RightBelow k m u v x rows bs
at_child k m u v rows bs h below true e =
    let f = first_ends (v - 128) rows bs e in
    record { same = f.0; sound = (f.1, h); inside = refl; ends = λ l q. let z : ◌≡◌ {A = ℕ} 0 1 = cc in omega arith }
at_child k m u v rows bs h below false e =
    let r = below e in
    record { same = r.same; sound = r.sound; inside = r.inside; ends = r.ends }

-- a node whose child by the first bit is right
at_node : (k m : ℕ) (u : List ℕ) (n b : ℕ) (rows : List Code) (bs : List ℕ) → n < m → b < 2 → go_on rows ≡ true
    → RightBelow k m u (child u n b) (leb 128 (child u n b)) (by b rows) bs → Right (suc k) m u n rows (b ∷ bs)
at_node k m u n b rows bs l h g r =
    let w = walk_bit u n b bs in
    record {
      same = w ∙ r.same ∙ sym (first_by rows b bs g);
      sound = rw w r.sound;
      inside = walk_bit (take (2 * m) u) n b bs ∙ rw (own_child m u n b l h, w) r.inside;
      ends = λ a q. r.ends (le_of_suc-le-suc a) (sym w ∙ q);
    }

none_right : (k m : ℕ) (u : List ℕ) (n : ℕ) (rows : List Code) → go_on rows ≡ true → Right (suc k) m u n rows []
unfolding walk
none_right k m u n rows g = record { same = sym (first_none rows g); sound = tt; inside = refl; ends = λ l q. not-suc-le-zero l }

-- the child by a bit passes the test
abbrev Below : (k m : ℕ) (u : List ℕ) (n : ℕ) (rows : List Code) → ℕ → Type 0
Below k m u n rows b = (elim (leb 128 (child u n b)) [ true ↦ ends_for (child u n b - 128) (by b rows) | false ↦ agrees k u m (child u n b) (by b rows) ]) ≡ true

-- a node that passes: it stands inside, its rows go on by a bit, and both its children pass
record Passes (k m : ℕ) (u : List ℕ) (n : ℕ) (rows : List Code) : Type 0 where
  pub own : n < m
  pub on : go_on rows ≡ true
  pub below : (b : ℕ) → b < 2 → Below k m u n rows b

passes : (k m : ℕ) (u : List ℕ) (n : ℕ) (rows : List Code) → agrees (suc k) u m n rows ≡ true → Passes k m u n rows
unfolding agrees
passes k m u n rows e =
    let a = and_right _ _ (and_right _ _ e) in
    record {
      own = ltb-true n m (and_left _ _ e);
      on = and_left _ _ (and_right _ _ e);
      below = λ b l. ⊎_elim (λ q. subst (Below k m u n rows) (sym q) (and_left _ _ a)) (λ q. subst (Below k m u n rows) (sym q) (and_right _ _ a)) (bit b l);
    }

node_right : (k m : ℕ) (u : List ℕ) (n : ℕ) (rows : List Code) (bs : List ℕ) → agrees k u m n rows ≡ true → Bits bs → Right k m u n rows bs
unfolding agrees
node_right zero m u n rows bs e h = absurd (untrue e)
node_right (suc k) m u n rows [] e h = none_right k m u n rows (passes k m u n rows e).on
node_right (suc k) m u n rows (b ∷ bs) e (more l h) =
    let a = passes k m u n rows e in
    let v = child u n b in
    at_node k m u n b rows bs a.own l a.on
    (at_child k m u v (by b rows) bs h (λ f. node_right k m u v (by b rows) bs f h) (leb 128 v) (a.below b l))

-- where all rows go on by a bit, a row has a first digit, and it is a bit
first_bit : (rows : List Code) (p s b : ℕ) (c : List ℕ) → go_on rows ≡ true → HasRow rows (code p s (b ∷ c)) → b < 2
unfolding go_on HasRow
first_bit [] p s b c g r = absurd r
first_bit (code q x [] ∷ rows) p s b c g r = absurd (untrue g)
first_bit (code q x (d ∷ ds) ∷ rows) p s b c g (inl e) =
    let f : d ≡ b = cc in
    rw f at (ltb-true d 2 (and_left _ _ g))
first_bit (code q x (d ∷ ds) ∷ rows) p s b c g (inr r) = first_bit rows p s b c (and_right _ _ g) r

some_bit : (rows : List Code) (p s : ℕ) → go_on rows ≡ true → HasRow rows (code p s []) → ⊥
unfolding go_on HasRow
some_bit [] p s g r = r
some_bit (code q x [] ∷ rows) p s g r = untrue g
some_bit (code q x (d ∷ ds) ∷ rows) p s g (inl e) = let z : ◌≡◌ {A = ℕ} 0 1 = cc in omega arith
some_bit (code q x (d ∷ ds) ∷ rows) p s g (inr r) = some_bit rows p s (and_right _ _ g) r

-- a row stays a row: among those that go on by its first bit, those of its prior, and those that are meant
kept : (x : Bool) (first row : Code) (rows : List Code) → ((x ≡ true) × (first ≡ row)) ⊎ HasRow rows row
    → HasRow (elim x [ true ↦ first ∷ rows | false ↦ rows ]) row
unfolding HasRow
kept true first row rows (inl e) = inl e.1
kept true first row rows (inr r) = inr r
kept false first row rows (inl e) = absurd (untrue e.0)
kept false first row rows (inr r) = r

row_by : (rows : List Code) (p s b : ℕ) (c : List ℕ) → HasRow rows (code p s (b ∷ c)) → HasRow (by b rows) (code p s c)
unfolding HasRow by
row_by [] p s b c r = r
row_by (code q x [] ∷ rows) p s b c (inl e) = let z : ◌≡◌ {A = ℕ} 0 1 = cc in absurd (omega arith)
row_by (code q x [] ∷ rows) p s b c (inr r) = row_by rows p s b c r
row_by (code q x (d ∷ ds) ∷ rows) p s b c (inl e) = kept (eqb d b) (code q x ds) (code p s c) (by b rows) (inl (eq-eqb d b (cc), cc))
row_by (code q x (d ∷ ds) ∷ rows) p s b c (inr r) = kept (eqb d b) (code q x ds) (code p s c) (by b rows) (inr (row_by rows p s b c r))

row_of : (list : List Code) (p s : ℕ) (c : List ℕ) → HasRow list (code p s c) → HasRow (codes_of list p) (code p s c)
unfolding HasRow codes_of
row_of [] p s c r = r
row_of (code q x d ∷ rows) p s c (inl e) = kept (eqb q p) (code q x d) (code p s c) (codes_of rows p) (inl (eq-eqb q p (cc), e))
row_of (code q x d ∷ rows) p s c (inr r) = kept (eqb q p) (code q x d) (code p s c) (codes_of rows p) (inr (row_of rows p s c r))

row_meant : (rows : List Code) (p : ℕ) (row : Code) → HasRow rows row → HasRow (meant p rows) row
unfolding meant
row_meant rows p row r = kept (escape_alone rows) _ row rows (inr r)

-- the one row that ends here is the one that is there
row_ends : (v : ℕ) (rows : List Code) (p s : ℕ) (c : List ℕ) → ends_for v rows ≡ true → HasRow rows (code p s c) → (c ≡ []) × (v ≡ s)
unfolding HasRow ends_for
row_ends v [] p s c e r = absurd r
row_ends v (code q x [] ∷ []) p s c e (inl f) = let z = eqb-true x v (and_left _ _ e) in (cc, cc)
row_ends v (code q x [] ∷ []) p s c e (inr r) = absurd r
row_ends v (code q x [] ∷ row ∷ rows) p s c e r = absurd (untrue e)
row_ends v (code q x (d ∷ ds) ∷ rows) p s c e r = absurd (untrue e)

-- so the walk along a row's code ends with its symbol, at the code's end
child_gives : (k m : ℕ) (u : List ℕ) (v p s : ℕ) (rows : List Code) (c bs : List ℕ) → HasRow rows (code p s c)
    → (agrees k u m v rows ≡ true → walk u v (c ++ bs) ≡ symbol s bs)
    → (x : Bool) → (elim x [ true ↦ ends_for (v - 128) rows | false ↦ agrees k u m v rows ]) ≡ true → by_child u v (c ++ bs) x ≡ symbol s bs
child_gives k m u v p s rows c bs r below true e =
    let f = row_ends (v - 128) rows p s c e r in
    rw (f.0, f.1)
child_gives k m u v p s rows c bs r below false e = below e

node_gives : (k m : ℕ) (u : List ℕ) (n p s : ℕ) (rows : List Code) (c bs : List ℕ) → agrees k u m n rows ≡ true → HasRow rows (code p s c)
    → walk u n (c ++ bs) ≡ symbol s bs
unfolding agrees
node_gives zero m u n p s rows c bs e r = absurd (untrue e)
node_gives (suc k) m u n p s rows [] bs e r = absurd (some_bit rows p s (passes k m u n rows e).on r)
node_gives (suc k) m u n p s rows (b ∷ c) bs e r =
    let a = passes k m u n rows e in
    let v = child u n b in
    let on = row_by rows p s b c r in
    walk_bit u n b (c ++ bs) ∙
    child_gives k m u v p s (by b rows) c bs on (λ f. node_gives k m u v p s (by b rows) c bs f on) (leb 128 v)
    (a.below b (first_bit rows p s b c a.on r))

module _ (k : ℕ) (t : List ℕ) (list : List Code) where
  abbrev PriorRight : ℕ → Type 0
  PriorRight p = (pair155 (tree t p) ≡ escape_alone (codes_of list p)) × (agrees k (tree t p) (nodes t p) 0 (meant p (codes_of list p)) ≡ true)

  prior_right : (p : ℕ) → prior_agrees k t list p ≡ true → PriorRight p
  unfolding prior_agrees
  prior_right p a = (from_equal _ _ (and_left _ _ a), and_right _ _ a)

  priors_right : (n p : ℕ) → priors_agree k t list n ≡ true → p < n → PriorRight p
  unfolding priors_agree
  priors_right zero p a l = absurd (not-suc-le-zero l)
  priors_right (suc n) p a l =
      ⊎_elim
      (λ (q : p ≡ n). rw q (prior_right n (and_left _ _ a)))
      (λ below. priors_right n p (and_right _ _ a) below)
      (eq-or-lt_of_le (le_of_suc-le-suc l))

  at : table_agrees k t list ≡ true → (p : ℕ) → p < 128 → PriorRight p
  unfolding table_agrees
  at a p l = priors_right 128 p a l

  right : table_agrees k t list ≡ true → (p : ℕ) → p < 128 → (bs : List ℕ) → Bits bs → Right k (nodes t p) (tree t p) 0 (meant p (codes_of list p)) bs
  right a p l bs h = node_right k (nodes t p) (tree t p) 0 (meant p (codes_of list p)) bs (at a p l).1 h

  pub means : table_agrees k t list ≡ true → Means t k list
  unfolding walked printed
  means a =
      record {
        alike = λ p l bs h. (right a p l bs h).same;
        gives = λ p s c bs l r.
            let m = row_meant (codes_of list p) p (code p s c) (row_of list p s c r) in
            node_gives k (nodes t p) (tree t p) 0 p s (meant p (codes_of list p)) c bs (at a p l).1 m;
        sound = λ p l bs h. (right a p l bs h).sound;
        inside = λ p l bs h. (right a p l bs h).inside;
        ends = λ p l bs h. (right a p l bs h).ends;
        pairs = λ p l. (at a p l).0;
      }
