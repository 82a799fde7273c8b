-- A walk over the series that passes each entry of the tables once: what antt can compute for all 64. It finds what `every_series` says.
-- Assumes nothing.
use Prim.Native.Nat.{ℕ, zero, suc, ◌+◌, ◌*◌}
use native.Mathlib.Omega.{arith}
use mathlib.Core.Path.{◌≡◌, refl, sym, ap, ◌∙◌}
use mathlib.Core.Bool.{Bool, true}
use mathlib.Core.List.{List}
use lib.ListN.{get_or, drop}
use lib.Seq.{get_or-drop}
use Rattle.words.specs.Numbers.{series_count}
use Rattle.words.specs.Tests.{◌and◌, all_below}
use Rattle.words.proofs.Laws.{all_front}
use Rattle.copies.specs.Tables.{Copies, Series, series_at}
use Rattle.copies.specs.Whole.{every_series}

-- the tables without series 0
abbrev pub rest : Copies → Copies
rest t =
    record {
      firsts = drop 1 t.firsts;
      lasts = drop 1 t.lasts;
      kinds = drop 8 t.kinds;
      values = drop 8 t.values;
      sent = drop 8 t.sent;
      rel_to = drop 8 t.rel_to;
      rel_kind = drop 8 t.rel_kind;
      rel_value = drop 8 t.rel_value;
      received = drop 64 t.received;
      up = t.up;
    }

-- the rule holds of series 0, and of those after it
unfoldable pub walked : ℕ → (Series → Bool) → Copies → Bool
walked zero rule t = true
walked (suc k) rule t = rule (series_at t 0) and walked k rule (rest t)

-- entry j of a column is entry i of the column without its first k
later : (l : List ℕ) (k i j : ℕ) → j ≡ k + i → get_or l j 0 ≡ get_or (drop k l) i 0
later l k i j e = ap (λ (x : ℕ). get_or l x 0) e ∙ sym (get_or-drop k l i 0)

pub series_rest : (t : Copies) (s : ℕ) → series_at t (suc s) ≡ series_at (rest t) s
series_rest t s =
    let row : (n : ℕ) → suc s * 8 + n ≡ 8 + (s * 8 + n) = λ n. omega arith in
    let rows : (n m : ℕ) → (suc s * 8 + n) * 8 + m ≡ 64 + ((s * 8 + n) * 8 + m) = λ n m. omega arith in
    let next : suc s ≡ 1 + s = omega arith in
    λ x. record {
      first = later t.firsts 1 s (suc s) next x;
      last = later t.lasts 1 s (suc s) next x;
      kept = λ n. record {
        kind = later t.kinds 8 (s * 8 + n) (suc s * 8 + n) (row n) x;
        value = later t.values 8 (s * 8 + n) (suc s * 8 + n) (row n) x;
        sent = later t.sent 8 (s * 8 + n) (suc s * 8 + n) (row n) x;
        relto = later t.rel_to 8 (s * 8 + n) (suc s * 8 + n) (row n) x;
        relkind = later t.rel_kind 8 (s * 8 + n) (suc s * 8 + n) (row n) x;
        relvalue = later t.rel_value 8 (s * 8 + n) (suc s * 8 + n) (row n) x;
      };
      received = λ n m. later t.received 64 ((s * 8 + n) * 8 + m) ((suc s * 8 + n) * 8 + m) (rows n m) x;
    }

below : (k : ℕ) (rule : Series → Bool) (t : Copies) → all_below k (λ s. rule (series_at t s)) ≡ walked k rule t
unfolding all_below walked
below zero rule t = refl
below (suc k) rule t =
    all_front k (λ s. rule (series_at t s))
    ∙ ap (λ (f : ℕ → Bool). rule (series_at t 0) and all_below k f) (λ x s. rule (series_rest t s x))
    ∙ ap (λ (b : Bool). rule (series_at t 0) and b) (below k rule (rest t))

pub every_walked : (rule : Series → Bool) (t : Copies) → every_series rule t ≡ walked series_count rule t
unfolding every_series
every_walked rule t = below series_count rule t
