-- The events of an EIT that was judged, one line each: the lines that are left lead to the answer.
use Prim.Native.Nat.{ℕ, zero, suc, ◌-◌, ◌≤◌, ◌<◌, min}
use mathlib.Core.Path.{◌≡◌, refl, sym, ap, ◌∙◌, subst}
use mathlib.Core.List.{List, [], ◌∷◌}
use native.Mathlib.Numerals.{sub-one}
use native.Mathlib.Omega.{arith}
use lib.ListN.{length}
use Rattle.std.specs.Prelude.{Ok}
use Rattle.bytes_at.proofs.WalkLaws.{many_inv}
use Rattle.refusal.specs.Outcomes.{resulted}
use Rattle.kind.specs.declared.Kind.{Kind}
use Rattle.kind.specs.declared.Kind.TheVariants.{Mgt, Tvct, Rrt, Eit, Ett}
use Rattle.kind.specs.Kinds.{limits_of, kind_of}
use Rattle.format.specs.Repeats.{Bytes}
use Rattle.format.specs.Formats.{walks}
use Rattle.strings.specs.Places.{text_at}
use Rattle.eit.specs.declared.event.Title.TheVariants.{Text}
use Rattle.eit.specs.Walked.{event}
use Rattle.eit.specs.Titles.{title_of}
use Rattle.eit.specs.Fields.{count_at, first_at, title_part, title_at, event_at, event_end}
use Rattle.eit.specs.Inner.{Events}
use Rattle.eit.proofs.EventLaws.{title_sound}
use Rattle.eit.proofs.EventsLaws.{body_events, events_step}
use Rattle.section.specs.declared.header.Header.{Header}
use Rattle.section.specs.Walked.{body_of}
use Rattle.section.specs.Sections.{body_walk, section_by}
use Rattle.section.proofs.SectionLaws.{Passed, any_header_passed, section_header, section_walked}
use Rattle.lines.specs.Lines.{event_line, event_lines, events_shown, rest_shown}
use Rattle.shown.specs.Output.{Put}
use Rattle.shown.specs.Inner.{Placed}
use Rattle.shown.proofs.BothLaws.{eq_either}
use Rattle.shown.proofs.PutLaws.{put_nothing, put_then, put_size, put_inside}

-- ---- the title of an event
title_in_lem : (s : List ℕ) (start n size : ℕ) → Placed size (Text (record { start = start; length = n })) → Placed size (title_of s start n)
unfolding title_of
title_in_lem s start n size h =
    eq_either (Placed size) _ _ (record {})
    (eq_either (Placed size) _ _ (eq_either (Placed size) _ _ (record {}) h _ _) h _ _) _ _

first_stands : (s : List ℕ) (n a : ℕ) (v : Events s n a) → 0 < n → (b : ℕ) × (walks event s v.end a ≡ Ok b)
first_stands s n a v h = let p = many_inv _ n a v.stands.0 h v.stands.1 in (p.0, p.1.0)

pub title_placed : (s : List ℕ) (n a : ℕ) → Bytes s → Events s n a → 0 < n → Placed (length s) (event_at s a).title
unfolding event_at title_at title_part text_at
title_placed s n a z v h =
    let w = first_stands s n a v h in
    title_in_lem s _ _ (length s) (omega (arith, (title_sound s v.end a w.0 w.1).0, v.inside), z _)

-- ---- the events of a section that was judged
eit_events : (s : List ℕ) (h : Header) → section_by kind_of s ≡ resulted h → h.kind ≡ Eit
    → Events s (count_at s (limits_of Eit).body) (first_at (limits_of Eit).body)
unfolding body_of
eit_events s h p q =
    let w = section_walked kind_of s h p in
    let v = any_header_passed s h (section_header kind_of s h p) in
    let k : v.0 ≡ Eit = sym (ap (λ (g : Header). g.kind) v.1.fields) ∙ q in
    let c = subst (λ (x : Kind). Passed x s h) k v.1 in
    let b = body_events s (length s - 4) (limits_of Eit).body w.0 (subst (λ (x : Kind). body_walk x s ≡ Ok w.0) q w.1) in
    record { end = length s - 4; stands = b.0; begins = omega (arith, b.1); inside = omega arith; small = omega (arith, c.largest, c.size) }

-- of the kind that was read, with its body where the code begins it
pub section_events : (s : List ℕ) (h : Header) (at : ℕ) → section_by kind_of s ≡ resulted h → h.kind ≡ Eit → at ≡ (limits_of h.kind).body
    → Events s (count_at s at) (first_at at)
section_events s h at p q e =
    subst (λ (x : ℕ). Events s (count_at s x) (first_at x)) (sym (e ∙ ap (λ (k : Kind). (limits_of k).body) q)) (eit_events s h p q)

pub events_rest : (s : List ℕ) (k : Kind) (at : ℕ) → k ≡ Eit → at ≡ (limits_of k).body → events_shown s at ≡ rest_shown s k
unfolding rest_shown
events_rest s k at q e = rw q (ap (events_shown s) (e ∙ ap (λ (x : Kind). (limits_of x).body) q))

-- the other kinds end their line
pub other_rest : (s : List ℕ) (k : Kind) → (k ≡ Eit → ⊥) → 10 ∷ [] ≡ rest_shown s k
unfolding rest_shown
other_rest s Mgt h = refl
other_rest s Tvct h = refl
other_rest s Rrt h = refl
other_rest s Eit h = absurd (h refl)
other_rest s Ett h = refl

-- ---- the loop over the events
-- one line is put, and the others are left
line_more : {l k e : List ℕ} {n m r : ℕ} (s : List ℕ) (left a : ℕ) → 0 < left → Put (event_line s a) l n m k
    → Put (event_lines s (left - 1) (event_end s a)) k m r e → Put (event_lines s left a) l n r e
unfolding event_lines
line_more s zero a h p q = absurd (omega arith)
line_more s (suc left) a h p q = put_then p (rw sub-one at q)

pub record Left (s : List ℕ) (k from : ℕ) (l : List ℕ) (n : ℕ) (out : List ℕ) (m a left : ℕ) : Type 0 where
  pub events : Events s left a
  pub size : length out ≡ length l
  pub inside : m ≤ length out
  pub leads : (r : ℕ) (e : List ℕ) → Put (event_lines s left a) out m r e → Put (event_lines s k from) l n r e

pub left_first : {s l : List ℕ} {k from n m left : ℕ} → Events s k from → m ≡ min (length l) n → left ≡ k → Left s k from l n l m from left
left_first {s} {l} {k} {from} {n} {m} v q e =
    rw e
    (record { events = v; size = refl; inside = omega (arith, q); leads = λ r e t. put_then (put_nothing l n m q) t })

pub left_step : {s l out out' : List ℕ} {k from n m m' a a' left fewer : ℕ} → Left s k from l n out m a left → 0 < left → fewer ≡ left - 1
    → Put (event_line s a) out m m' out' → a' ≡ event_end s a → Left s k from l n out' m' a' fewer
left_step {a = a} {left = left} i h f p q =
    rw (f, q)
    (record {
      events = events_step _ left a i.events h;
      size = put_size p ∙ i.size;
      inside = put_inside p;
      leads = λ r e t. i.leads r e (line_more _ left a h p t);
    })

pub left_done : {s l out : List ℕ} {k from n m a left : ℕ} → Left s k from l n out m a left → left ≡ 0 → Put (event_lines s k from) l n m out
unfolding event_lines
left_done {s} {l} {out} {k} {from} {n} {m} {a} {left} i e = i.leads m out (rw e (put_nothing out m m (omega (arith, i.inside))))
