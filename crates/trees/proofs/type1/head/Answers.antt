-- `type1::head` meets its contract: each arm is its word. Made by tools/annex_c.py.
use mathlib.Core.Path.{◌≡◌, sym, ap}
use Prim.Native.Nat.{ℕ}
use lib.ListN.{get_or, take, get_or-eq_default}
use Rattle.trees.specs.Words1.{words1}
use Rattle.trees.proofs.Past.{Nots, past}
use Rattle.trees.proofs.type1.head.Goals as goal

at : {i k : ℕ} → i ≡ k → get_or (take 64 words1) k 0 ≡ get_or (take 64 words1) i 0
at e = sym (ap (λ (n : ℕ). get_or (take 64 words1) n 0) e)

past_end : (i : ℕ) → Nots 64 i → 0 ≡ get_or (take 64 words1) i 0
unfolding words1
past_end i h = sym (get_or-eq_default (take 64 words1) 0 (past 64 h))

pub returns-in-0 : goal.returns-in-0
unfolding words1
returns-in-0 c = at c.in-0.is

pub returns-in-1 : goal.returns-in-1
unfolding words1
returns-in-1 c = at c.in-1.is

pub returns-in-2 : goal.returns-in-2
unfolding words1
returns-in-2 c = at c.in-2.is

pub returns-in-3 : goal.returns-in-3
unfolding words1
returns-in-3 c = at c.in-3.is

pub returns-in-4 : goal.returns-in-4
unfolding words1
returns-in-4 c = at c.in-4.is

pub returns-in-5 : goal.returns-in-5
unfolding words1
returns-in-5 c = at c.in-5.is

pub returns-in-6 : goal.returns-in-6
unfolding words1
returns-in-6 c = at c.in-6.is

pub returns-in-7 : goal.returns-in-7
unfolding words1
returns-in-7 c = at c.in-7.is

pub returns-in-8 : goal.returns-in-8
unfolding words1
returns-in-8 c = at c.in-8.is

pub returns-in-9 : goal.returns-in-9
unfolding words1
returns-in-9 c = at c.in-9.is

pub returns-in-10 : goal.returns-in-10
unfolding words1
returns-in-10 c = at c.in-10.is

pub returns-in-11 : goal.returns-in-11
unfolding words1
returns-in-11 c = at c.in-11.is

pub returns-in-12 : goal.returns-in-12
unfolding words1
returns-in-12 c = at c.in-12.is

pub returns-in-13 : goal.returns-in-13
unfolding words1
returns-in-13 c = at c.in-13.is

pub returns-in-14 : goal.returns-in-14
unfolding words1
returns-in-14 c = at c.in-14.is

pub returns-in-15 : goal.returns-in-15
unfolding words1
returns-in-15 c = at c.in-15.is

pub returns-in-16 : goal.returns-in-16
unfolding words1
returns-in-16 c = at c.in-16.is

pub returns-in-17 : goal.returns-in-17
unfolding words1
returns-in-17 c = at c.in-17.is

pub returns-in-18 : goal.returns-in-18
unfolding words1
returns-in-18 c = at c.in-18.is

pub returns-in-19 : goal.returns-in-19
unfolding words1
returns-in-19 c = at c.in-19.is

pub returns-in-20 : goal.returns-in-20
unfolding words1
returns-in-20 c = at c.in-20.is

pub returns-in-21 : goal.returns-in-21
unfolding words1
returns-in-21 c = at c.in-21.is

pub returns-in-22 : goal.returns-in-22
unfolding words1
returns-in-22 c = at c.in-22.is

pub returns-in-23 : goal.returns-in-23
unfolding words1
returns-in-23 c = at c.in-23.is

pub returns-in-24 : goal.returns-in-24
unfolding words1
returns-in-24 c = at c.in-24.is

pub returns-in-25 : goal.returns-in-25
unfolding words1
returns-in-25 c = at c.in-25.is

pub returns-in-26 : goal.returns-in-26
unfolding words1
returns-in-26 c = at c.in-26.is

pub returns-in-27 : goal.returns-in-27
unfolding words1
returns-in-27 c = at c.in-27.is

pub returns-in-28 : goal.returns-in-28
unfolding words1
returns-in-28 c = at c.in-28.is

pub returns-in-29 : goal.returns-in-29
unfolding words1
returns-in-29 c = at c.in-29.is

pub returns-in-30 : goal.returns-in-30
unfolding words1
returns-in-30 c = at c.in-30.is

pub returns-in-31 : goal.returns-in-31
unfolding words1
returns-in-31 c = at c.in-31.is

pub returns-in-32 : goal.returns-in-32
unfolding words1
returns-in-32 c = at c.in-32.is

pub returns-in-33 : goal.returns-in-33
unfolding words1
returns-in-33 c = at c.in-33.is

pub returns-in-34 : goal.returns-in-34
unfolding words1
returns-in-34 c = at c.in-34.is

pub returns-in-35 : goal.returns-in-35
unfolding words1
returns-in-35 c = at c.in-35.is

pub returns-in-36 : goal.returns-in-36
unfolding words1
returns-in-36 c = at c.in-36.is

pub returns-in-37 : goal.returns-in-37
unfolding words1
returns-in-37 c = at c.in-37.is

pub returns-in-38 : goal.returns-in-38
unfolding words1
returns-in-38 c = at c.in-38.is

pub returns-in-39 : goal.returns-in-39
unfolding words1
returns-in-39 c = at c.in-39.is

pub returns-in-40 : goal.returns-in-40
unfolding words1
returns-in-40 c = at c.in-40.is

pub returns-in-41 : goal.returns-in-41
unfolding words1
returns-in-41 c = at c.in-41.is

pub returns-in-42 : goal.returns-in-42
unfolding words1
returns-in-42 c = at c.in-42.is

pub returns-in-43 : goal.returns-in-43
unfolding words1
returns-in-43 c = at c.in-43.is

pub returns-in-44 : goal.returns-in-44
unfolding words1
returns-in-44 c = at c.in-44.is

pub returns-in-45 : goal.returns-in-45
unfolding words1
returns-in-45 c = at c.in-45.is

pub returns-in-46 : goal.returns-in-46
unfolding words1
returns-in-46 c = at c.in-46.is

pub returns-in-47 : goal.returns-in-47
unfolding words1
returns-in-47 c = at c.in-47.is

pub returns-in-48 : goal.returns-in-48
unfolding words1
returns-in-48 c = at c.in-48.is

pub returns-in-49 : goal.returns-in-49
unfolding words1
returns-in-49 c = at c.in-49.is

pub returns-in-50 : goal.returns-in-50
unfolding words1
returns-in-50 c = at c.in-50.is

pub returns-in-51 : goal.returns-in-51
unfolding words1
returns-in-51 c = at c.in-51.is

pub returns-in-52 : goal.returns-in-52
unfolding words1
returns-in-52 c = at c.in-52.is

pub returns-in-53 : goal.returns-in-53
unfolding words1
returns-in-53 c = at c.in-53.is

pub returns-in-54 : goal.returns-in-54
unfolding words1
returns-in-54 c = at c.in-54.is

pub returns-in-55 : goal.returns-in-55
unfolding words1
returns-in-55 c = at c.in-55.is

pub returns-in-56 : goal.returns-in-56
unfolding words1
returns-in-56 c = at c.in-56.is

pub returns-in-57 : goal.returns-in-57
unfolding words1
returns-in-57 c = at c.in-57.is

pub returns-in-58 : goal.returns-in-58
unfolding words1
returns-in-58 c = at c.in-58.is

pub returns-in-59 : goal.returns-in-59
unfolding words1
returns-in-59 c = at c.in-59.is

pub returns-in-60 : goal.returns-in-60
unfolding words1
returns-in-60 c = at c.in-60.is

pub returns-in-61 : goal.returns-in-61
unfolding words1
returns-in-61 c = at c.in-61.is

pub returns-in-62 : goal.returns-in-62
unfolding words1
returns-in-62 c = at c.in-62.is

pub returns-in-63 : goal.returns-in-63
unfolding words1
returns-in-63 c = at c.in-63.is

pub returns-in_default : goal.returns-in_default
unfolding Nots
returns-in_default c = search past_end
