-- Steps of a socket, one after the other.
use Rattle.std.proofs.Common.{◌≡◌, ◌≢◌, ◌⊎◌, ℕ, ◌+◌, ◌<◌, ◌≤◌, Bool, true, false, List, [], ◌∷◌, ◌++◌, length, refl, ap, sym, ◌∙◌, subst, append_assoc, arith, inl, inr}
use Rattle.std.specs.Prelude.{Result, Option, Some, None, Contains, sum_by}
use Rattle.std.specs.Io.KnownBytes.{Appends}
use Rattle.std.specs.List.{All}
use Rattle.slab.proofs.SlabLemmas.{Contains-cons_cases}
use Rattle.std.proofs.lemmas.List.{append-nil, length-append}
use Rattle.std.proofs.lemmas.List.Elements.{All-append, All-nil, Contains-append_left, Contains-append_right, Contains-append_cases, Contains-push}
use Rattle.std.proofs.lemmas.List.Sums.{sum_by-append}
use Rattle.std.proofs.lemmas.Grind.{flat_map-append}
use Rattle.http_server.proofs.KnownLemmas.{Appends-then}
use Rattle.std.specs.declared.io.Error.{Error}
use Rattle.event_loop.specs.declared.input.Piece.{Piece}
use Rattle.loop_messages.specs.declared.message.Heard.{Heard}
use Rattle.loop_messages.specs.declared.message.TheConstants.{MOST_UNWRITTEN}
use Rattle.event_loop.specs.Input.{IsEmptied, IsEnd}
use Rattle.event_loop.specs.Traffic.{Traffic, IsWritten, written, One, IsFailed, IsBlocked}
use Rattle.event_loop.specs.Socket.{SocketView, SocketWrites, SocketReads, SocketVisits, MayBeRead, MayBeWritten, Tells, IsAbout, bytes_told_by, told_in, written_told_by}

module _ {X : Type 0} (P : X → Type 0) where
  pub one_left : (xs ys : List X) → One P xs → One P (xs ++ ys)
  one_left xs ys o = (o.0, Contains-append_left xs ys o.0 o.1, o.2)

  pub one_right : (xs ys : List X) → One P ys → One P (xs ++ ys)
  one_right xs ys o = (o.0, Contains-append_right xs ys o.0 o.1, o.2)

  pub one_cases : (xs ys : List X) → One P (xs ++ ys) → One P xs ⊎ One P ys
  one_cases xs ys o = elim (Contains-append_cases xs ys o.0 o.1) [ inl c ↦ inl (o.0, c, o.2) | inr c ↦ inr (o.0, c, o.2) ]

  pub one_none : One P [] → ⊥
  one_none o = omega (arith, o.1.1)

  pub one_alone : (x : X) → P x → One P (x ∷ [])
  one_alone x p = (x, Contains-push [] x, p)

  pub alone : (x : X) → One P (x ∷ []) → P x
  alone x o = elim (Contains-cons_cases x o.0 [] o.1) [ inl same ↦ subst P (sym same) o.2 | inr c ↦ absurd (omega (arith, c.1)) ]

-- one piece was written after the other
pub written_then : (a b c : Traffic) (x y : List ℕ) → IsWritten a x b → IsWritten b y c → IsWritten a (x ++ y) c
written_then a b c x y p q =
    record {
      waits = p.waits ∙ ap (λ (l : List ℕ). x ++ l) q.waits ∙ sym (append_assoc x y c.waits);
      written = q.written ∙ ap (λ (l : List ℕ). l ++ y) p.written ∙ append_assoc (written a) x y;
      contents = Appends-then a.contents b.contents c.contents x y p.contents q.contents;
      said = q.said ∙ p.said;
      got = q.got ∙ p.got;
      reads = q.reads ∙ p.reads;
    }

pub writes_then : (a b c : SocketView) → SocketWrites a b → SocketWrites b c → SocketWrites a c
writes_then a b c p q =
    record {
      piece = p.piece ++ q.piece;
      traffic = written_then a.traffic b.traffic c.traffic p.piece q.piece p.traffic q.traffic;
      ended = λ e. q.ended (p.ended e);
      results = p.results ++ q.results;
      writes = q.writes ∙ ap (λ (l : List (Result ℕ Error)). l ++ q.results) p.writes ∙ append_assoc a.traffic.writes p.results q.results;
      failed = λ o. elim (one_cases IsFailed p.results q.results o) [ inl first ↦ q.ended (p.failed first) | inr second ↦ q.failed second ];
      only_failed = λ e. elim (q.only_failed e) [
        | inl before ↦ elim (p.only_failed before) [ inl first ↦ inl first | inr o ↦ inr (one_left IsFailed p.results q.results o) ]
        | inr o ↦ inr (one_right IsFailed p.results q.results o)
      ];
      blocked = λ e. elim (p.blocked e) [
        | inl still ↦ elim (q.blocked still) [ inl last ↦ inl last | inr o ↦ inr (one_right IsBlocked p.results q.results o) ]
        | inr o ↦ inr (one_left IsBlocked p.results q.results o)
      ];
      others = q.others ∙ ap (λ (s : SocketView). record s { traffic = c.traffic; is_writable = c.is_writable; has_ended = c.has_ended }) p.others;
    }

appends_none : (o : Option (List ℕ)) → Appends o o []
appends_none None = tt
appends_none (Some xs) = sym (append-nil xs)

-- no write was made
pub writes_nothing : (a : SocketView) → SocketWrites a a
writes_nothing a = record {
  piece = [];
  traffic = record { waits = refl; written = sym (append-nil (written a.traffic)); contents = appends_none a.traffic.contents; said = refl; got = refl; reads = refl };
  ended = λ e. e;
  results = [];
  writes = sym (append-nil a.traffic.writes);
  failed = λ o. absurd (one_none IsFailed o);
  only_failed = λ e. inl e;
  blocked = λ e. inl e;
  others = refl;
}

-- one was
pub writes_once : (a b : SocketView) (piece : List ℕ) (r : Result ℕ Error) → IsWritten a.traffic piece b.traffic → b.traffic.writes ≡ a.traffic.writes ++ r ∷ [] → (a.has_ended ≡ true → b.has_ended ≡ true) → (IsFailed r → b.has_ended ≡ true) → (b.has_ended ≡ true → (a.has_ended ≡ true) ⊎ IsFailed r) → (a.is_writable ≡ true → (b.is_writable ≡ true) ⊎ IsBlocked r)
    → b ≡ record a { traffic = b.traffic; is_writable = b.is_writable; has_ended = b.has_ended } → SocketWrites a b
writes_once a b piece r traffic writes ended failed only_failed blocked others = record {
  piece = piece;
  traffic = traffic;
  ended = ended;
  results = r ∷ [];
  writes = writes;
  failed = λ o. failed (alone IsFailed r o);
  only_failed = λ e. elim (only_failed e) [ inl before ↦ inl before | inr f ↦ inr (one_alone IsFailed r f) ];
  blocked = λ e. elim (blocked e) [ inl still ↦ inl still | inr w ↦ inr (one_alone IsBlocked r w) ];
  others = others;
}

-- what was read is not what was reported
pub more_got : (told got new bytes : List ℕ) → told ≡ got → new ≡ got ++ bytes → bytes ≢ [] → told ≢ new
more_got told got new [] same more some all = some refl
more_got told got new (b ∷ bytes) same more some all = omega (arith, ap (λ (l : List ℕ). length l) same, ap (λ (l : List ℕ). length l) more, ap (λ (l : List ℕ). length l) all, length-append got (b ∷ bytes))

-- nothing was reported
pub tells_nothing : (key : ℕ) (a b : SocketView) (x y : List Heard) → y ≡ x → b.told ≡ a.told → b.untold ≡ a.untold → b.traffic.said ≡ a.traffic.said → b.number ≡ a.number → b.closes ≡ a.closes → (a.has_ended ≡ true → b.has_ended ≡ true) → Tells key a b x y
tells_nothing key a b x y heard told untold said number closes ended =
    record {
      more = [];
      heard = heard ∙ sym (append-nil x);
      about = All-nil (IsAbout key a.number);
      told = told ∙ sym (append-nil a.told);
      untold = omega (arith, untold);
      said = said;
      number = number;
      closes = closes;
      ended = ended;
    }

-- one was reported after the other
pub tells_then : (key : ℕ) (a b c : SocketView) (x y z : List Heard) → Tells key a b x y → Tells key b c y z → Tells key a c x z
tells_then key a b c x y z p q =
    record {
      more = p.more ++ q.more;
      heard = q.heard ∙ ap (λ (l : List Heard). l ++ q.more) p.heard ∙ append_assoc x p.more q.more;
      about = All-append (IsAbout key a.number) p.more q.more p.about (subst (λ (n : ℕ). All (IsAbout key n) q.more) p.number q.about);
      told = q.told ∙ ap (λ (l : List ℕ). l ++ told_in q.more) p.told ∙ append_assoc a.told (told_in p.more) (told_in q.more) ∙ ap (λ (l : List ℕ). a.told ++ l) (sym (flat_map-append bytes_told_by p.more q.more));
      untold = omega (arith, sum_by-append written_told_by p.more q.more, p.untold, q.untold);
      said = q.said ∙ p.said;
      number = q.number ∙ p.number;
      closes = q.closes ∙ p.closes;
      ended = λ e. q.ended (p.ended e);
    }

-- writing tells nothing
pub writes_tells : (key : ℕ) (a b : SocketView) (x : List Heard) → SocketWrites a b → Tells key a b x x
writes_tells key a b x p =
    tells_nothing key a b x x refl (ap (λ (s : SocketView). s.told) p.others) (ap (λ (s : SocketView). s.untold) p.others) p.traffic.said (ap (λ (s : SocketView). s.number) p.others) (ap (λ (s : SocketView). s.closes) p.others) p.ended

-- a visit that wrote, and then reported or not that all is written
module _ (may_read : Bool) (a b : SocketView) (w : SocketWrites a b) (one : MayBeWritten a → length a.traffic.writes < length b.traffic.writes) where
  some_results : MayBeWritten a → 0 < length w.results
  some_results m = omega (arith, one m, ap (λ (l : List (Result ℕ Error)). length l) w.writes, length-append a.traffic.writes w.results)

  same_told : b.told ≡ a.told
  same_told = ap (λ (s : SocketView). s.told) w.others

  same_outstanding : b.is_outstanding ≡ a.is_outstanding
  same_outstanding = ap (λ (s : SocketView). s.is_outstanding) w.others

  module _ (none : (MayBeWritten a → ⊥) → b ≡ a) where
    may_still : (u : ℕ) → MayBeRead a → MayBeRead (record b { untold = u })
    may_still u may =
        subst (λ (s : SocketView). MayBeRead (record s { untold = u })) (sym (none (λ m. omega (arith, m.waits, may.is_written))))
        (record { is_readable = may.is_readable; is_done_with = may.is_done_with; is_written = may.is_written; stays = may.stays; is_here = may.is_here })

    unread : (u : ℕ) → (may_read ≡ true → MayBeRead (record b { untold = u }) → MOST_UNWRITTEN ≤ u) → SocketVisits may_read a (record b { untold = u })
    unread u kept = record {
      results = w.results;
      writes = w.writes;
      pieces = [];
      reads = w.traffic.reads ∙ sym (append-nil a.traffic.reads);
      once = omega arith;
      is_written = some_results;
      is_read = λ asks may. inr (kept asks (may_still u may));
      ended = λ e. elim (w.only_failed e) [ inl before ↦ inl before | inr o ↦ inr (inl o) ];
      failed = λ o. elim o [ inl f ↦ w.failed f | inr e ↦ absurd (one_none IsEnd e) ];
      blocked = w.blocked;
      emptied = λ e. inl (ap (λ (s : SocketView). s.is_readable) w.others ∙ e);
      outstanding = (λ e. inl (sym same_outstanding ∙ e), λ o. elim o [ inl e ↦ same_outstanding ∙ e | inr more ↦ absurd (omega (arith, more, ap (λ (l : List ℕ). length l) same_told)) ]);
      others = ap (λ (s : SocketView). record s { traffic = b.traffic; told = b.told; untold = u; is_readable = b.is_readable; is_writable = b.is_writable; is_outstanding = b.is_outstanding; has_ended = b.has_ended; is_listed = b.is_listed }) w.others;
    }

    -- nothing was read, since it could not be
    pub visit_unread : (c : SocketView) → c ≡ record b { untold = c.untold } → (may_read ≡ true → MayBeRead c → MOST_UNWRITTEN ≤ c.untold) → SocketVisits may_read a c
    visit_unread c same kept =
        subst (λ (s : SocketView). SocketVisits may_read a s) (sym same)
        (unread c.untold (λ asks may. kept asks (subst (λ (s : SocketView). MayBeRead s) (sym same) may)))

  read_of : (u : ℕ) (d : SocketView) → MayBeRead (record b { untold = u }) → SocketReads (record b { untold = u }) d → SocketVisits may_read a d
  read_of u d may r = record {
    results = w.results;
    writes = r.writes ∙ w.writes;
    pieces = r.piece ∷ [];
    reads = r.reads ∙ ap (λ (l : List Piece). l ++ r.piece ∷ []) w.traffic.reads;
    once = omega arith;
    is_written = some_results;
    is_read = λ asks may. inl (omega arith);
    ended = λ e. elim (r.only_failed e) [ inl end ↦ inr (inr (inl (one_alone IsEnd r.piece end))) | inr lost ↦ inr (inr (inr lost)) ];
    failed = λ o. elim o [ inl f ↦ absurd (cc (sym may.is_here ∙ w.failed f)) | inr e ↦ r.failed (alone IsEnd r.piece e) ];
    blocked = λ e. elim (w.blocked e) [ inl still ↦ inl (ap (λ (s : SocketView). s.is_writable) r.others ∙ still) | inr o ↦ inr o ];
    emptied = λ e. elim r.emptied [ inl still ↦ inl still | inr emptied ↦ inr (one_alone IsEmptied r.piece emptied) ];
    outstanding = (
      λ e. inr (omega (arith, r.outstanding.0 e, ap (λ (l : List ℕ). length l) same_told)),
      λ o. elim o [ inl e ↦ absurd (cc (sym may.is_done_with ∙ same_outstanding ∙ e)) | inr more ↦ r.outstanding.1 (omega (arith, more, ap (λ (l : List ℕ). length l) same_told)) ],
    );
    others = let all = (λ (s : SocketView). record s { traffic = d.traffic; told = d.told; untold = d.untold; is_readable = d.is_readable; is_writable = d.is_writable; is_outstanding = d.is_outstanding; has_ended = d.has_ended; is_listed = d.is_listed }) in ap all r.others ∙ ap all w.others;
  }

  -- one read was made
  pub visit_read : (c d : SocketView) → c ≡ record b { untold = c.untold } → MayBeRead c → SocketReads c d → SocketVisits may_read a d
  visit_read c d same may r =
      read_of c.untold d (subst (λ (s : SocketView). MayBeRead s) same may) (subst (λ (s : SocketView). SocketReads s d) same r)

-- whether it is listed is no part of it
pub visit_listed : (may_read : Bool) (s t x : SocketView) (i : Bool) → SocketVisits may_read (record s { is_listed = i }) t → x ≡ record t { is_listed = x.is_listed } → SocketVisits may_read s x
visit_listed may_read s t x i h same =
    subst (λ (v : SocketView). SocketVisits may_read s v) (sym same) (record {
      results = h.results;
      writes = h.writes;
      pieces = h.pieces;
      reads = h.reads;
      once = h.once;
      is_written = λ m. h.is_written (record { waits = m.waits; is_writable = m.is_writable; is_here = m.is_here });
      is_read = λ asks may. h.is_read asks (record { is_readable = may.is_readable; is_done_with = may.is_done_with; is_written = may.is_written; stays = may.stays; is_here = may.is_here });
      ended = h.ended;
      failed = h.failed;
      blocked = h.blocked;
      emptied = h.emptied;
      outstanding = h.outstanding;
      others = ap (λ (v : SocketView). record v { is_listed = x.is_listed }) h.others;
    })
