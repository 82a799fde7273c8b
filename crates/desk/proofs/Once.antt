-- Each promise allows one result: it is an equation, or two, that show all of it. Assumes nothing.
use mathlib.Core.Path.{◌≡◌, refl, sym, ◌∙◌}
use mathlib.Core.List.{List}
use Prim.Native.Nat.{ℕ}
use Rattle.words.specs.Results.{OneResult}
use Rattle.words.proofs.Results.{one_result}
use Rattle.desk.specs.Calls.{Call, given, called}
use Rattle.desk.specs.Once.{Left, Given, EachOnce}

-- what `feed` left, from the call
abbrev left_of : Call → Left
left_of c = record { fed = record { used = c.used; written = c.written }; desk = c.desk; bytes = c.bytes }

-- two equations
given_once : {A : Type 0} (back : A) (bytes : List ℕ) → OneResult (λ (x : Given A). (x.back ≡ back) × (x.bytes ≡ bytes))
given_once back bytes x y p q =
    let b : x.back ≡ y.back = p.0 ∙ sym q.0 in
    let l : x.bytes ≡ y.bytes = p.1 ∙ sym q.1 in
    same x.back y.back x.bytes y.bytes b l
  where
    same : {A : Type 0} (a b : A) (k l : List ℕ) → a ≡ b → k ≡ l → ◌≡◌ {A = Given A} (record { back = a; bytes = k }) (record { back = b; bytes = l })
    same a b k l e f = rw (e, f)

pub each_once : EachOnce
each_once = (
  λ d t bytes. one_result (λ (x : Left). given x.fed x.desk x.bytes) left_of (λ x. refl) (called d t bytes),
  λ bytes from end. given_once _ _,
  λ says leaves. given_once says leaves,
)
