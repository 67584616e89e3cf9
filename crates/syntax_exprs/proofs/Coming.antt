-- Whether a terminal comes next, and what is refused where it doesn't, or where it is one too many.
use Rattle.std.proofs.Common.{◌≡◌, ◌≤◌, ◌<◌, ◌↔◌, ℕ, IsTrue, length, List, [], ◌∷◌, Bool, true, false, inl, inr, refl, ap, arith}
use Rattle.lang_base.specs.declared.place.Place.{Place}
use Rattle.lang_base.specs.declared.refusal.Kind.TheVariants as kind
use Rattle.lang_base.specs.declared.refusal.Stop.{Stop}
use Rattle.lang_base.specs.Refused.{IfRefused}
use Rattle.syntax_tokens.specs.declared.token.Symbol.{Symbol}
use Rattle.syntax_tokens.specs.declared.token.Keyword.{Keyword}
use Rattle.syntax_tokens.specs.declared.terminal.Placed.{Placed}
use Rattle.syntax_tokens.specs.declared.terminal.Terminal.{Terminal}
use Rattle.syntax_tokens.specs.declared.terminal.Terminal.TheVariants as terminal
use Rattle.syntax_grammar.specs.Words.{is_name, sign, word}
use Rattle.syntax_grammar.specs.Taking.{Next, place_of}
use Rattle.syntax_grammar.specs.Expecting.{one, next_is, next_of}
use Rattle.syntax_grammar.specs.Limits.{Counts, Fits, past, Within, nothing, passes, no_terminal, too_many, Refuses}
use Rattle.syntax_exprs.specs.Counted.{MayCome, Halts}
use Rattle.syntax_grammar.proofs.Tested.{sign_own, word_own, sign_or_not, word_or_not}

pub comes_next : {wanted : Terminal} {next : Placed} {after : List Placed} → next.terminal ≡ wanted → Next wanted (next ∷ after)
comes_next {next = next} {after = after} is =
    record { after = after; takes = record { place = next.place; takes = record { first = ap (λ t. record { terminal = t; place = next.place } ∷ after) is } } }

pub next_comes : (s : Symbol) (here : List Placed) → Next (terminal.Symbol s) here → next_is (sign s) (next_of here) ≡ true
next_comes s here n = rw (n.takes.takes.first) (sign_own s)

pub symbol_comes_not : (s : Symbol) (here : List Placed) → (Next (terminal.Symbol s) here → ⊥) → next_is (sign s) (next_of here) ≡ false
symbol_comes_not s [] away = refl
symbol_comes_not s (next ∷ after) away =
    elim (sign_or_not s next.terminal) [ inl is ↦ absurd (away (comes_next is)) | inr not ↦ not ]

pub keyword_comes : (k : Keyword) (here : List Placed) → Next (terminal.Keyword k) here → next_is (word k) (next_of here) ≡ true
keyword_comes k here n = rw (n.takes.takes.first) (word_own k)

pub keyword_comes_not : (k : Keyword) (here : List Placed) → (Next (terminal.Keyword k) here → ⊥) → next_is (word k) (next_of here) ≡ false
keyword_comes_not k [] away = refl
keyword_comes_not k (next ∷ after) away =
    elim (word_or_not k next.terminal) [ inl is ↦ absurd (away (comes_next is)) | inr not ↦ not ]

pub lost_here : {test : Terminal → Bool} {here : List Placed} {end place : Place} (c : Counts) → next_is test (next_of here) ≡ false → place ≡ place_of here end →
    Refuses c (one test ∷ []) here end (record { kind = kind.Syntax; place = place })
lost_here {here = here} c away is = record { here = here; stops = no_terminal away; place = is }

pub ends_halts : (here : List Placed) (end : Place) (c : Counts) (stop : Stop) → length here < 1 →
    stop ≡ Stop.Refused (record { kind = kind.Syntax; place = place_of here end }) → IfRefused stop (Halts c here end)
ends_halts [] end c stop none is = rw is (record { stops = λ test may. lost_here c refl refl })
ends_halts (next ∷ after) end c stop none is = absurd (omega (arith, none))

pub over_halts : (here : List Placed) (end : Place) (c : Counts) (stop : Stop) (found : Bool) → 1 ≤ length here → (IsTrue found ↔ Fits c) → found ≡ false →
    stop ≡ Stop.Refused (record { kind = kind.Nest; place = place_of here end }) → IfRefused stop (Halts c here end)
over_halts [] end c stop found some fits is_not is = absurd (omega (arith, some))
over_halts (next ∷ after) end c stop found some fits is_not is =
    let over : Fits c → ⊥ = λ f. let t : found ≡ true = fits.1 f in cc in
    rw is (record { stops = λ test may. record { here = next ∷ after; stops = too_many (may next after refl) over; place = refl } })

pub symbol_may : (s : Symbol) (here : List Placed) → Next (terminal.Symbol s) here → MayCome (sign s) here
symbol_may s here n next after is = let same : next.terminal ≡ terminal.Symbol s = let t = n.takes.takes.first in cc in rw same (sign_own s)

pub keyword_may : (k : Keyword) (here : List Placed) → Next (terminal.Keyword k) here → MayCome (word k) here
keyword_may k here n next after is = let same : next.terminal ≡ terminal.Keyword k = let t = n.takes.takes.first in cc in rw same (word_own k)

not_name : (t : Terminal) → ((n : ℕ) → t ≡ terminal.Name n → ⊥) → is_name t ≡ false
not_name (terminal.Name n) none = absurd (none n refl)
not_name (terminal.Int n) none = refl
not_name (terminal.Text text) none = refl
not_name (terminal.Symbol s) none = refl
not_name (terminal.Keyword k) none = refl

pub name_may : (here : List Placed) {n : ℕ} → Next (terminal.Name n) here → MayCome is_name here
name_may here {n} t next after is = let same : next.terminal ≡ terminal.Name n = let f = t.takes.takes.first in cc in rw same refl

pub no_name_comes : (here : List Placed) → ((n : ℕ) → Next (terminal.Name n) here → ⊥) → next_is is_name (next_of here) ≡ false
no_name_comes [] none = refl
no_name_comes (next ∷ after) none = not_name next.terminal (λ n e. none n (comes_next e))

pub no_name : (c : Counts) (here : List Placed) (end place : Place) → ((n : ℕ) → Next (terminal.Name n) here → ⊥) → place ≡ place_of here end →
    Refuses c (one is_name ∷ []) here end (record { kind = kind.Syntax; place = place })
no_name c [] end place none is = lost_here c refl is
no_name c (next ∷ after) end place none is = lost_here c (not_name next.terminal (λ n e. none n (comes_next e))) is

-- a terminal that was taken is read
pub read_any : {test : Terminal → Bool} {before after : List Placed} {next : Placed} {c d : Counts} → before ≡ next ∷ after → test next.terminal ≡ true → Fits c → d ≡ past next.terminal c →
    Within c (one test ∷ []) before d after
read_any is e fits d = rw (is, d) (passes e fits nothing)

pub read_symbol : (s : Symbol) {before after : List Placed} {next : Placed} {c : Counts} → Next (terminal.Symbol s) before → before ≡ next ∷ after → Fits c →
    Within c (one (sign s) ∷ []) before (past (terminal.Symbol s) c) after
read_symbol s {next = next} n is fits = let same : next.terminal ≡ terminal.Symbol s = let f = n.takes.takes.first in cc in read_any is (rw same (sign_own s)) fits (rw same refl)

pub read_keyword : (k : Keyword) {before after : List Placed} {next : Placed} {c d : Counts} → Next (terminal.Keyword k) before → before ≡ next ∷ after → Fits c → d ≡ c →
    Within c (one (word k) ∷ []) before d after
read_keyword k {next = next} n is fits d = let same : next.terminal ≡ terminal.Keyword k = let f = n.takes.takes.first in cc in read_any is (rw same (word_own k)) fits (rw (same, d) refl)

pub read_name : {before after : List Placed} {next : Placed} {c d : Counts} {n : ℕ} → Next (terminal.Name n) before → before ≡ next ∷ after → Fits c → d ≡ c →
    Within c (one is_name ∷ []) before d after
read_name {next = next} {n = m} n is fits d = let same : next.terminal ≡ terminal.Name m = let f = n.takes.takes.first in cc in read_any is (rw same refl) fits (rw (same, d) refl)

-- what is reported where a symbol, a keyword or a name doesn't come
pub lost_symbol : (s : Symbol) (here : List Placed) (end : Place) (c : Counts) (stop : Stop) → (Next (terminal.Symbol s) here → ⊥) →
    stop ≡ Stop.Refused (record { kind = kind.Syntax; place = place_of here end }) → IfRefused stop (Refuses c (one (sign s) ∷ []) here end)
lost_symbol s here end c stop away is = rw is (lost_here c (symbol_comes_not s here away) refl)

pub lost_keyword : (k : Keyword) (here : List Placed) (end : Place) (c : Counts) (stop : Stop) → (Next (terminal.Keyword k) here → ⊥) →
    stop ≡ Stop.Refused (record { kind = kind.Syntax; place = place_of here end }) → IfRefused stop (Refuses c (one (word k) ∷ []) here end)
lost_keyword k here end c stop away is = rw is (lost_here c (keyword_comes_not k here away) refl)

pub lost_name : (here : List Placed) (end : Place) (c : Counts) (stop : Stop) → ((n : ℕ) → Next (terminal.Name n) here → ⊥) →
    stop ≡ Stop.Refused (record { kind = kind.Syntax; place = place_of here end }) → IfRefused stop (Refuses c (one is_name ∷ []) here end)
lost_name here end c stop none is = rw is (no_name c here end (place_of here end) none refl)

-- and where one comes that is one too many
pub halted : (test : Terminal → Bool) (here : List Placed) (end : Place) (c : Counts) (stop : Stop) → MayCome test here → IfRefused stop (Halts c here end) → IfRefused stop (Refuses c (one test ∷ []) here end)
halted test here end c (Stop.Refused refusal) may h = h.stops test may
halted test here end c Stop.NoMemory may h = h

pub halted_symbol : (s : Symbol) (here : List Placed) (end : Place) (c : Counts) (stop : Stop) → Next (terminal.Symbol s) here → IfRefused stop (Halts c here end) → IfRefused stop (Refuses c (one (sign s) ∷ []) here end)
halted_symbol s here end c stop n h = halted (sign s) here end c stop (symbol_may s here n) h

pub halted_keyword : (k : Keyword) (here : List Placed) (end : Place) (c : Counts) (stop : Stop) → Next (terminal.Keyword k) here → IfRefused stop (Halts c here end) → IfRefused stop (Refuses c (one (word k) ∷ []) here end)
halted_keyword k here end c stop n h = halted (word k) here end c stop (keyword_may k here n) h

pub halted_name : (here : List Placed) (end : Place) (c : Counts) (stop : Stop) {n : ℕ} → Next (terminal.Name n) here → IfRefused stop (Halts c here end) → IfRefused stop (Refuses c (one is_name ∷ []) here end)
halted_name here end c stop n h = halted is_name here end c stop (name_may here n) h
