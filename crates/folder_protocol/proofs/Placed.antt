-- What the clauses of a put say to the laws: each file that was given its name under the lock was placed as the laws ask.
use Rattle.std.proofs.Common.{◌≡◌, inl, inr, ℕ, List, [], ◌∷◌, ◌++◌, sym, ◌∙◌, subst}
use Rattle.std.proofs.lemmas.List.{append_cancel_right}
use Rattle.folder_model.specs.Call.{Call, Linked, Linking, Done}
use Rattle.folder_model.specs.Parts.{Parts}
use Rattle.folder_model.specs.Turn.{InTurn, AllInTurn, HasPlaced}
use Rattle.folder_protocol.specs.Causes.{AnyIs, HasCall, AnswersLink}
use Rattle.folder_protocol.specs.Goes.{GoesInTurn}
use Rattle.folder_protocol.specs.Linking.{LinksAfter, EachLinksAfter, LinksOnly, Watches}

module _ (parts : Parts) (R : List (List ℕ) → Type 0) where
  -- a file of this name was given its name under the exclusive lock, which was had since a listing that gave names of which R is so
  abbrev pub IsPlaced : List ℕ → List Call → Type 0
  IsPlaced name calls = (bytes : List ℕ) × (names : List (List ℕ)) × (name ≡ parts.name_of bytes) × R names × HasPlaced parts bytes names calls

  placed_later : (bytes : List ℕ) (names : List (List ℕ)) (call : Call) (calls : List Call) → HasPlaced parts bytes names calls → HasPlaced parts bytes names (call ∷ calls)
  placed_later bytes names (Linked from to Done) calls has = inr has
  placed_later bytes names call calls has = has

  placed_now : (name : List ℕ) (call : Call) (calls : List Call) → LinksAfter (Watches R) call calls → InTurn parts calls call → AnswersLink name Done call → IsPlaced name (call ∷ calls)
  placed_now name (Linked from to given) calls (names, watched, r) (bytes, ready, named) (is, done) =
      (bytes, names, sym is ∙ named, r, subst (λ (g : Linking). HasPlaced parts bytes names (Linked from to g ∷ calls)) (sym done) (inl (ready, watched)))
  placed_now name call calls links turn here = absurd here

  placed_among : (name : List ℕ) (calls before : List Call) → EachLinksAfter (Watches R) calls before → AllInTurn parts (calls ++ before) → AnyIs (AnswersLink name Done) calls → IsPlaced name (calls ++ before)
  placed_among name [] before each all any = absurd any
  placed_among name (call ∷ calls) before (links, each) (turn, all) (inl here) = placed_now name call (calls ++ before) links turn here
  placed_among name (call ∷ calls) before (links, each) (turn, all) (inr there) =
      let p = placed_among name calls before each all there in
      (p.0, p.1, p.2, p.3, placed_later p.0 p.1 call (calls ++ before) p.4)

  -- so `links` and `in_turn` of `put_judged` and `replace` are what the law of two processes asks, once a link was answered
  pub linked_is_placed : (name : List ℕ) (before after : List Call) → LinksOnly (Watches R) before after → GoesInTurn parts before after → AllInTurn parts before → HasCall (AnswersLink name Done) before after → IsPlaced name after
  linked_is_placed name before after (calls, is, each) goes all (found, same, any) =
      let one : found ≡ calls = append_cancel_right found calls before (sym same ∙ is) in
      subst (λ (l : List Call). IsPlaced name l) (sym is)
      (placed_among name calls before each (subst (λ (l : List Call). AllInTurn parts l) is (goes.2 all)) (subst (λ (l : List Call). AnyIs (AnswersLink name Done) l) one any))
