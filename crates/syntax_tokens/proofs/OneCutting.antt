-- A text is cut in one way at most.
use Rattle.std.proofs.Common.{◌≡◌, ◌⊎◌, ℕ, List, [], ◌∷◌, ◌++◌, length, take, Option, sym, subst, refl, ap, ◌∙◌, inl, inr, append_assoc}
use Rattle.std.proofs.lemmas.List.{append-nil, append_cancel_left, take_at}
use Rattle.lang_base.specs.declared.place.Place.{Place}
use Rattle.lang_base.specs.declared.refusal.Kind.{Kind}
use Rattle.lang_base.specs.declared.refusal.Refusal.{Refusal}
use Rattle.syntax_tokens.specs.declared.token.Token.{Token}
use Rattle.syntax_tokens.specs.declared.token.TokenKind.{TokenKind}
use Rattle.syntax_tokens.specs.Cutting.{Pieces, text_of, StandBefore, tokens_of, Cuts, FaultsAt}
use Rattle.syntax_tokens.specs.Fault.{IsFault}
use Rattle.syntax_tokens.specs.Piece.{IsPiece}
use Rattle.syntax_tokens.specs.Place.{place_after}
use Rattle.syntax_tokens.proofs.Fronts.{piece-front, cause-front}
use Rattle.syntax_tokens.proofs.Unique.{Answer, piece, fault, Body, Front, front-unique}

-- nothing is left, or a fault
abbrev Ends : List ℕ → Type 0
Ends left = (left ≡ []) ⊎ ((kind : Kind) × (at : ℕ) × IsFault kind left at)

fault-front : (kind : Kind) (bytes : List ℕ) (at : ℕ) → IsFault kind bytes at → Front bytes (fault kind at)
fault-front kind bytes at (cause, e, is) = subst (λ k. Front bytes (fault k at)) (sym e) (cause-front cause bytes at is)

-- nothing begins the empty text
nothing-front : (r : Answer) → Front [] r → ⊥
nothing-front r (c, e, x) = subst (λ k. Body k [] r) (sym e) x

piece-ends : (left : List ℕ) (kind : Option TokenKind) (text rest : List ℕ) → Ends left → left ≡ text ++ rest → IsPiece kind text rest → ⊥
piece-ends left kind text rest (inl none) e is = nothing-front (piece kind (length text)) (subst (λ bs. Front bs (piece kind (length text))) (sym e ∙ none) (piece-front kind text rest is))
piece-ends left kind text rest (inr (k, at, bad)) e is =
    let same : piece kind (length text) ≡ fault k at = front-unique left (piece kind (length text)) (fault k at) (subst (λ bs. Front bs (piece kind (length text))) (sym e) (piece-front kind text rest is)) (fault-front k left at bad) in
    cc

-- the pieces of a text, and what is left after them
pub pieces-unique : (some others : Pieces) (left right : List ℕ) → Ends left → Ends right → StandBefore left some → StandBefore right others → text_of some ++ left ≡ text_of others ++ right → (some ≡ others) × (left ≡ right)
pieces-unique [] [] left right a b x y e = (refl, e)
pieces-unique [] ((k, t) ∷ others) left right a b x y e = absurd (piece-ends left k t (text_of others ++ right) a (e ∙ append_assoc t (text_of others) right) y.0)
pieces-unique ((k, t) ∷ some) [] left right a b x y e = absurd (piece-ends right k t (text_of some ++ left) b (sym e ∙ append_assoc t (text_of some) left) x.0)
pieces-unique ((k, t) ∷ some) ((j, u) ∷ others) left right a b x y e =
    let rest = text_of some ++ left in
    let following = text_of others ++ right in
    let whole : t ++ rest ≡ u ++ following = sym (append_assoc t (text_of some) left) ∙ e ∙ append_assoc u (text_of others) right in
    let same : piece k (length t) ≡ piece j (length u) = front-unique (t ++ rest) (piece k (length t)) (piece j (length u)) (piece-front k t rest x.0) (subst (λ bs. Front bs (piece j (length u))) (sym whole) (piece-front j u following y.0)) in
    let kinds : k ≡ j = cc in
    let sizes : length t ≡ length u = cc in
    let texts : t ≡ u = sym (take_at t rest (length t) refl) ∙ ap (λ n. take n (t ++ rest)) sizes ∙ ap (take (length u)) whole ∙ take_at u following (length u) refl in
    let rests : rest ≡ following = append_cancel_left t rest following (whole ∙ ap (λ bs. bs ++ following) (sym texts)) in
    let more = pieces-unique some others left right a b x.1 y.1 rests in
    let first : ◌≡◌ {A = Option TokenKind × List ℕ} (k, t) (j, u) = ap (λ (k : Option TokenKind). (k, t)) kinds ∙ ap (λ (t : List ℕ). (j, t)) texts in
    (ap (λ (p : Option TokenKind × List ℕ). p ∷ some) first ∙ ap (λ ps. (j, u) ∷ ps) more.0, more.1)

pub cuts-unique : (bytes : List ℕ) (some others : List Token) (end other : Place) → Cuts bytes some end → Cuts bytes others other → (some ≡ others) × (end ≡ other)
cuts-unique bytes some others end other a b =
    let whole : text_of a.pieces ++ [] ≡ text_of b.pieces ++ [] = ap (λ bs. bs ++ []) (sym a.whole ∙ b.whole) in
    let same = pieces-unique a.pieces b.pieces [] [] (inl refl) (inl refl) a.each b.each whole in
    (a.reported ∙ ap (tokens_of []) same.0 ∙ sym b.reported, a.ends ∙ sym b.ends)

pub cuts-faultless : (bytes : List ℕ) (tokens : List Token) (end : Place) (refusal : Refusal) → Cuts bytes tokens end → FaultsAt bytes refusal → ⊥
cuts-faultless bytes tokens end refusal a b =
    let whole : text_of a.pieces ++ [] ≡ text_of b.pieces ++ b.left = append-nil (text_of a.pieces) ∙ sym a.whole ∙ b.whole in
    let same = pieces-unique a.pieces b.pieces [] b.left (inl refl) (inr (refusal.kind, b.at, b.fault)) a.each b.each whole in
    nothing-front (fault refusal.kind b.at) (subst (λ bs. Front bs (fault refusal.kind b.at)) (sym same.1) (fault-front refusal.kind b.left b.at b.fault))

pub faults-unique : (bytes : List ℕ) (one other : Refusal) → FaultsAt bytes one → FaultsAt bytes other → one ≡ other
faults-unique bytes one other a b =
    let same = pieces-unique a.pieces b.pieces a.left b.left (inr (one.kind, a.at, a.fault)) (inr (other.kind, b.at, b.fault)) a.each b.each (sym a.whole ∙ b.whole) in
    let bad : Front a.left (fault other.kind b.at) = subst (λ bs. Front bs (fault other.kind b.at)) (sym same.1) (fault-front other.kind b.left b.at b.fault) in
    let answer : fault one.kind a.at ≡ fault other.kind b.at = front-unique a.left (fault one.kind a.at) (fault other.kind b.at) (fault-front one.kind a.left a.at a.fault) bad in
    let kinds : one.kind ≡ other.kind = cc in
    let places : a.at ≡ b.at = cc in
    let placed : one.place ≡ other.place = a.placed ∙ ap (λ ps. place_after (text_of ps ++ take a.at a.left)) same.0 ∙ ap (λ bs. place_after (text_of b.pieces ++ take a.at bs)) same.1 ∙ ap (λ n. place_after (text_of b.pieces ++ take n b.left)) places ∙ sym b.placed in
    ap (λ (k : Kind). let r : Refusal = record { kind = k; place = one.place } in r) kinds ∙ ap (λ (p : Place). let r : Refusal = record { kind = other.kind; place = p } in r) placed
