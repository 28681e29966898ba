-- What always holds of the letters of a lane.
use Rattle.std.proofs.Common.{◌≡◌, ℕ, ◌+◌, ◌-◌, ◌^◌, ◌<◌, ◌≤◌, max, List, [], ◌∷◌, ◌++◌, length, drop, sym, subst, arith}
use Rattle.std.proofs.lemmas.List.{length-drop, length_push}
use Rattle.std.proofs.lemmas.List.Elements.{All-nil, All-push, All-drop}
use Rattle.links.specs.declared.bounds.LaneBounds.{LaneBounds}
use Rattle.links.specs.Sending.{SendingView, IsSending, HasRoomFor, last_number, new_sending, with_said, on_new_connection, for_new_life}
use Rattle.links.proofs.HeldLemmas.{bytes_held-push, bytes_held-drop}

pub sending_new : (bounds : LaneBounds) (held : List (List ℕ)) → held ≡ [] → IsSending (record (new_sending bounds) { held = held })
sending_new bounds held e = subst (λ (xs : List (List ℕ)). IsSending (record (new_sending bounds) { held = xs })) (sym e) (record {
  acknowledged = omega arith;
  said = omega arith;
  reached = omega arith;
  numbered = omega arith;
  letters = omega arith;
  bytes = omega arith;
  each = All-nil (λ (letter : List ℕ). length letter ≤ bounds.most_letter_bytes);
})

pub sending_held : (s : SendingView) (letter : List ℕ) (held : List (List ℕ)) → IsSending s → held ≡ s.held ++ letter ∷ [] → HasRoomFor s (length letter) → length letter ≤ s.bounds.most_letter_bytes → last_number s + 1 < 2 ^ 64
    → IsSending (record s { held = held })
sending_held s letter held i e room short numbered = subst (λ (xs : List (List ℕ)). IsSending (record s { held = xs })) (sym e) (record {
  acknowledged = i.acknowledged;
  said = i.said;
  reached = omega (arith, i.reached, length_push s.held letter);
  numbered = omega (arith, numbered, length_push s.held letter);
  letters = omega (arith, room.letters, length_push s.held letter);
  bytes = omega (arith, room.bytes, bytes_held-push s.held letter);
  each = All-push (λ (xs : List ℕ). length xs ≤ s.bounds.most_letter_bytes) s.held letter i.each short;
})

pub sending_said : (s : SendingView) (n : ℕ) → IsSending s → n ≡ s.said + 1 → s.said < last_number s → IsSending (with_said n s)
sending_said s n i e more = record {
  acknowledged = omega (arith, i.acknowledged, e);
  said = omega arith;
  reached = omega (arith, i.reached, e, more);
  numbered = i.numbered;
  letters = i.letters;
  bytes = i.bytes;
  each = i.each;
}

pub sending_acknowledged : (s : SendingView) (n : ℕ) (held : List (List ℕ)) → IsSending s → n ≤ s.reached → held ≡ drop (n - s.acknowledged) s.held → IsSending (record s { acknowledged = max s.acknowledged n; said = max s.said n; held = held })
sending_acknowledged s n held i le e = subst (λ (xs : List (List ℕ)). IsSending (record s { acknowledged = max s.acknowledged n; said = max s.said n; held = xs })) (sym e) (record {
  acknowledged = omega (arith, i.acknowledged);
  said = omega (arith, i.said, le);
  reached = omega (arith, i.reached, le, length-drop (n - s.acknowledged) s.held);
  numbered = omega (arith, i.numbered, i.reached, le, length-drop (n - s.acknowledged) s.held);
  letters = omega (arith, i.letters, length-drop (n - s.acknowledged) s.held);
  bytes = omega (arith, i.bytes, bytes_held-drop (n - s.acknowledged) s.held);
  each = All-drop (λ (xs : List ℕ). length xs ≤ s.bounds.most_letter_bytes) (n - s.acknowledged) s.held i.each;
})

pub sending_connected : (s : SendingView) → IsSending s → IsSending (on_new_connection s)
sending_connected s i = record {
  acknowledged = omega arith;
  said = omega (arith, i.acknowledged, i.said);
  reached = i.reached;
  numbered = i.numbered;
  letters = i.letters;
  bytes = i.bytes;
  each = i.each;
}

pub sending_anew : (s : SendingView) (peer_life : ℕ) → IsSending s → IsSending (for_new_life peer_life s)
sending_anew s peer_life i = record {
  acknowledged = omega arith;
  said = omega arith;
  reached = omega arith;
  numbered = omega (arith, i.numbered);
  letters = i.letters;
  bytes = i.bytes;
  each = i.each;
}
