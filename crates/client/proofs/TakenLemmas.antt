-- What a client was given are the texts of the first turns that its bytes spell.
use Rattle.std.proofs.Common.{◌≡◌, ℕ, zero, suc, ◌+◌, ◌<◌, Bool, true, false, List, [], ◌∷◌, ◌++◌, length, Option, Some, None, refl, sym, ◌∙◌, ap, subst, arith, append_assoc}
use Rattle.std.specs.Prelude.{◌==◌, if◌then◌else◌}
use Rattle.std.proofs.lemmas.Bool.{cond_both, eqb-true}
use Rattle.std.proofs.lemmas.List.{append-nil}
use Rattle.proto.specs.declared.reply.Reply as replies
use Rattle.proto.specs.declared.turn.Notice.{Notice}
use Rattle.proto.specs.declared.turn.Turn.{Turn}
use Rattle.proto.specs.declared.turn.Turn.TheVariants.{Ask, Say, Close}
use Rattle.proto.specs.Grammar.{next_turn}
use Rattle.proto.specs.Reader.{Reading, ReadsTurns, kept_of}
use Rattle.proto.specs.Text.{notice_text, given_text}
use Rattle.proto.proofs.SpellsLemmas.{reads_on, reads_closed, reads_spells, spells_some, spells_longer}
use Rattle.client.specs.declared.asked.Asked.{Asked}
use Rattle.client.specs.declared.talk.Talk.{Talk}
use Rattle.client.specs.RequestProofs.{client_number}
use Rattle.client.specs.Talk.{Given, new_talk, next_request, unmoved, only_given, go, go_where, go_on}
use Rattle.client.specs.Step.{IsRead, IsReadOn, IsFed, IsFedWhere, fed, on_reply, answered_to, on_again, asked_again, on_hangup}
use Rattle.memcached_spec.specs.Asked.{asked, TextsBy, Front}
use Rattle.client.specs.Taken.{pending, IsIdle, Live, TalkOk}

asks-push : (turns : List Turn) (t : Turn) → length (asked (turns ++ t ∷ [])) ≡ length (asked turns) + length (asked (t ∷ []))
asks-push [] t = omega arith
asks-push (Ask c q ∷ turns) t = let h = asks-push turns t in omega (arith, h)
asks-push (Say n ∷ turns) t = asks-push turns t
asks-push (Close n ∷ turns) t = asks-push turns t

-- a reply of which more holds
pub texts_imply : (P Q : ℕ → replies.Reply → Type 0) → ((q : ℕ) (r : replies.Reply) → P q r → Q q r) → (q : ℕ) (turns : List Turn) (bytes : List ℕ) → TextsBy P q turns bytes → TextsBy Q q turns bytes
texts_imply P Q f q [] bytes h = h
texts_imply P Q f q (Say n ∷ turns) bytes h = (h.0, h.1, texts_imply P Q f q turns h.0 h.2)
texts_imply P Q f q (Close n ∷ turns) bytes h = (h.0, h.1, texts_imply P Q f q turns h.0 h.2)
texts_imply P Q f q (Ask c quiet ∷ turns) bytes h = (h.0, h.1, f q h.0 h.2, h.3, texts_imply P Q f (q + 1) turns h.1 h.4)

pub talk_implies : (P Q : ℕ → replies.Reply → Type 0) (c : ℕ) (all : List ℕ) (hung : Bool) (t : Talk) (given : List ℕ) → ((q : ℕ) (r : replies.Reply) → P q r → Q q r) → TalkOk P c all hung t given → TalkOk Q c all hung t given
talk_implies P Q c all hung t given f ok = record { taken = ok.taken; texts = texts_imply P Q f 1 ok.taken given ok.texts; front = ok.front; live = ok.live; unhung = ok.unhung; idle = ok.idle }

-- a Close is the last turn that is read
after_close : (taken ts : List Turn) (bytes : List ℕ) (n : Notice) (new : Reading) → ReadsTurns bytes (taken ++ Close n ∷ ts) new → (ts ≡ []) × (new.closed ≡ true)
after_close [] ts bytes n new r = (r.2, r.4)
after_close (Say m ∷ taken) ts bytes n new r = after_close taken ts r.0 n new r.2
after_close (Ask c q ∷ taken) ts bytes n new r = after_close taken ts r.0 n new r.2
after_close (Close m ∷ []) ts bytes n new r = absurd (let e : ◌≡◌ {A = List Turn} (Close n ∷ ts) [] = r.2 in cc e)
after_close (Close m ∷ (x ∷ taken)) ts bytes n new r = absurd (let e : ◌≡◌ {A = List Turn} (x ∷ (taken ++ Close n ∷ ts)) [] = r.2 in cc e)

module _ (P : ℕ → replies.Reply → Type 0) where
  texts-append : (q k : ℕ) (turns more : List Turn) (bytes others : List ℕ) → k ≡ q + length (asked turns) → TextsBy P q turns bytes → TextsBy P k more others → TextsBy P q (turns ++ more) (bytes ++ others)
  texts-append q k [] more bytes others e h g =
      let same : k ≡ q = omega (arith, e) in
      subst (λ (z : ℕ × List ℕ). TextsBy P z.0 more (z.1 ++ others)) (λ i. (same i, sym h i)) g
  texts-append q k (Say n ∷ turns) more bytes others e h g = (h.0 ++ others, ap (λ b. b ++ others) h.1 ∙ append_assoc (notice_text n) h.0 others, texts-append q k turns more h.0 others e h.2 g)
  texts-append q k (Close n ∷ turns) more bytes others e h g = (h.0 ++ others, ap (λ b. b ++ others) h.1 ∙ append_assoc (notice_text n) h.0 others, texts-append q k turns more h.0 others e h.2 g)
  texts-append q k (Ask c quiet ∷ turns) more bytes others e h g =
      (h.0, h.1 ++ others, h.2, ap (λ b. b ++ others) h.3 ∙ append_assoc (given_text h.0 quiet) h.1 others, texts-append (q + 1) k turns more h.1 others (omega (arith, e)) h.4 g)

  front_of : (all : List ℕ) (turns taken more : List Turn) (r : Reading) → ReadsTurns all turns r → turns ≡ taken ++ more → Front all taken
  front_of all turns taken more r reads is = let s = reads_spells all turns r reads in record { turns = turns; rest = s.0; more = more; spells = s.1; is = is }

  one_more : (turns taken ts : List Turn) (x : Turn) → turns ≡ taken ++ x ∷ ts → turns ≡ (taken ++ x ∷ []) ++ ts
  one_more turns taken ts x is = is ∙ sym (append_assoc taken (x ∷ []) ts)

  noticed : (taken : List Turn) (given bytes text : List ℕ) (x : Turn) → TextsBy P 1 taken (given ++ bytes) → TextsBy P (1 + length (asked taken)) (x ∷ []) text → TextsBy P 1 (taken ++ x ∷ []) (given ++ (bytes ++ text))
  noticed taken given bytes text x h g = subst (TextsBy P 1 (taken ++ x ∷ [])) (append_assoc given bytes text) (texts-append 1 (1 + length (asked taken)) taken (x ∷ []) (given ++ bytes) text refl h g)

  go_ok : (u c : ℕ) (all : List ℕ) (turns : List Turn) (t : Talk) (given bytes : List ℕ) (taken ts : List Turn) → ReadsTurns all turns t.reader → turns ≡ taken ++ ts → t.outstanding ≡ None → t.closed ≡ false → t.last ≡ length (asked taken)
      → TextsBy P 1 taken (given ++ bytes) → TalkOk P c all false (go u c t bytes ts).talk (given ++ (go u c t bytes ts).bytes)
  go_ok u c all turns t given bytes taken [] reads is none going number h = record {
    taken = taken;
    texts = h;
    front = front_of all turns taken [] t.reader reads is;
    live = λ _. record {
      turns = turns;
      reads = reads;
      split = is ∙ ap (λ (o : Option Asked). taken ++ (pending o ++ [])) (sym none);
      number = let p : length (pending t.outstanding) ≡ 0 = ap (λ (o : Option Asked). length (pending o)) none in omega (arith, number, p);
      own = λ a e. let clash : ◌≡◌ {A = Option Asked} None (Some a) = sym none ∙ e in absurd (cc);
      ends = λ e. let clash : false ≡ true = sym going ∙ e in absurd (cc clash);
    };
    unhung = λ _. refl;
    idle = λ e. let clash : false ≡ true = sym going ∙ e in absurd (cc clash);
  }
  go_ok u c all turns t given bytes taken (Say n ∷ ts) reads is none going number h =
      go_ok u c all turns t given (bytes ++ notice_text n) (taken ++ Say n ∷ []) ts reads (one_more turns taken ts (Say n) is) none going
      (let k = asks-push taken (Say n) in omega (arith, number, k))
      (noticed taken given bytes (notice_text n) (Say n) h ([], sym (append-nil (notice_text n)), refl))
  go_ok u c all turns t given bytes taken (Close n ∷ ts) reads is none going number h =
      let last = after_close taken ts all n t.reader (subst (λ (x : List Turn). ReadsTurns all x t.reader) is reads) in
      let nothing : pending t.outstanding ++ [] ≡ [] = ap (λ (o : Option Asked). pending o ++ []) none in
      record {
        taken = taken ++ Close n ∷ [];
        texts = noticed taken given bytes (notice_text n) (Close n) h ([], sym (append-nil (notice_text n)), refl);
        front = front_of all turns (taken ++ Close n ∷ []) ts t.reader reads (one_more turns taken ts (Close n) is);
        live = λ _. record {
          turns = turns;
          reads = reads;
          split = one_more turns taken ts (Close n) is ∙ ap (λ (x : List Turn). (taken ++ Close n ∷ []) ++ x) (last.0 ∙ sym nothing);
          number = let k = asks-push taken (Close n) in let p : length (pending t.outstanding) ≡ 0 = ap (λ (o : Option Asked). length (pending o)) none in omega (arith, number, p, k);
          own = λ a e. let clash : ◌≡◌ {A = Option Asked} None (Some a) = sym none ∙ e in absurd (cc);
          ends = λ _. last.1;
        };
        unhung = λ _. refl;
        idle = λ _. record { none_asked = none; none_waits = refl };
      }
  go_ok u c all turns t given bytes taken (Ask command quiet ∷ ts) reads is none going number h = record {
    taken = taken;
    texts = h;
    front = front_of all turns taken (Ask command quiet ∷ ts) t.reader reads is;
    live = λ _. record {
      turns = turns;
      reads = reads;
      split = is;
      number = omega (arith, number);
      own = λ a e.
          let same : ◌≡◌ {A = Asked} (record { request = next_request c t.last command; quiet = quiet }) a = let s : ◌≡◌ {A = Option Asked} (Some (record { request = next_request c t.last command; quiet = quiet })) (Some a) = e in cc s in
          (ap (λ (x : Asked). x.request.client) (sym same), ap (λ (x : Asked). x.request.number) (sym same));
      ends = λ e. let clash : false ≡ true = sym going ∙ e in absurd (cc clash);
    };
    unhung = λ _. refl;
    idle = λ e. let clash : false ≡ true = sym going ∙ e in absurd (cc clash);
  }

  -- nothing came yet
  pub new_ok : (c : ℕ) → TalkOk P c [] false new_talk []
  unfolding next_turn kept_of
  new_ok c = record {
    taken = [];
    texts = refl;
    front = record { turns = []; rest = []; more = []; spells = (refl, refl); is = refl };
    live = λ _. record { turns = []; reads = (refl, refl, refl); split = refl; number = refl; own = λ a e. let clash : ◌≡◌ {A = Option Asked} None (Some a) = e in absurd (cc clash); ends = λ e. absurd (cc e) };
    unhung = λ _. refl;
    idle = λ e. absurd (cc e);
  }

  -- nothing changes
  stays_ok : (c : ℕ) (all : List ℕ) (hung : Bool) (t : Talk) (given : List ℕ) → TalkOk P c all hung t given → TalkOk P c all hung t (given ++ [])
  stays_ok c all hung t given ok = subst (TalkOk P c all hung t) (sym (append-nil given)) ok

  -- if something is outstanding it is not closed
  pub going_on : (c : ℕ) (all : List ℕ) (hung : Bool) (t : Talk) (given : List ℕ) (a : Asked) → TalkOk P c all hung t given → t.outstanding ≡ Some a → t.closed ≡ false
  going_on c all hung t given a ok at = by t.closed refl
    where
      by : (b : Bool) → t.closed ≡ b → t.closed ≡ false
      by true e = let clash : ◌≡◌ {A = Option Asked} None (Some a) = sym (ok.idle e).none_asked ∙ at in absurd (cc clash)
      by false e = e

  -- a reply of which P holds is handed in
  pub replied_ok : (u c : ℕ) (all : List ℕ) (hung : Bool) (t : Talk) (given : List ℕ) (q : ℕ) (reply : replies.Reply) → P q reply → TalkOk P c all hung t given → TalkOk P c all hung (on_reply u c t q reply).talk (given ++ (on_reply u c t q reply).bytes)
  replied_ok u c all hung t given q reply p ok = by t.outstanding refl
    where
      by : (o : Option Asked) → t.outstanding ≡ o → TalkOk P c all hung (answered_to u c t q reply o).talk (given ++ (answered_to u c t q reply o).bytes)
      by None at = stays_ok c all hung t given ok
      by (Some a) at = cond_both (a.request.number == q) (go_on u c (record t { outstanding = None }) (given_text reply a.quiet)) (unmoved t) (λ (g : Given). TalkOk P c all hung g.talk (given ++ g.bytes))
          (λ same.
          let going = going_on c all hung t given a ok at in
          let unhung = ok.unhung going in
          let live = ok.live unhung in
          let its = live.own a at in
          let pend : length (pending t.outstanding) ≡ 1 = ap (λ (o : Option Asked). length (pending o)) at in
          let number : q ≡ 1 + length (asked ok.taken) = let eq = eqb-true a.request.number q same in let n = live.number in let m = its.1 in omega (arith, eq, n, m, pend) in
          let pushed = asks-push ok.taken (Ask a.request.command a.quiet) in
          let last = live.number in
          let went = go_ok u c all live.turns (record t { outstanding = None }) given (given_text reply a.quiet) (ok.taken ++ Ask a.request.command a.quiet ∷ []) t.waiting live.reads
          (one_more live.turns ok.taken t.waiting (Ask a.request.command a.quiet) (live.split ∙ ap (λ (o : Option Asked). ok.taken ++ (pending o ++ t.waiting)) at)) refl going
          (omega (arith, last, pend, pushed))
          (texts-append 1 q ok.taken (Ask a.request.command a.quiet ∷ []) given (given_text reply a.quiet) number ok.texts (reply, [], p, sym (append-nil (given_text reply a.quiet)), refl)) in
          let Q : Bool × Bool → Type 0 = λ z. TalkOk P c all z.0 (go_where u c (record t { outstanding = None }) (given_text reply a.quiet) None z.1).talk (given ++ (go_where u c (record t { outstanding = None }) (given_text reply a.quiet) None z.1).bytes) in
          subst Q (λ i. (sym unhung i, sym going i)) went)
          (λ _. stays_ok c all hung t given ok)

  -- more bytes spell a list that begins with the same
  front_more : (all piece : List ℕ) (taken : List Turn) → Front all taken → Front (all ++ piece) taken
  front_more all piece taken f =
      let s = spells_some (suc (length (all ++ piece))) (all ++ piece) (omega arith) in
      let l = spells_longer all piece f.turns s.0 f.rest s.1 f.spells s.2 in
      record { turns = s.0; rest = s.1; more = f.more ++ l.0; spells = s.2; is = l.1 ∙ (ap (λ ts. ts ++ l.0) f.is ∙ append_assoc taken f.more l.0) }

  -- a piece of the client's bytes is handed in
  pub fed_ok : (u c : ℕ) (all piece : List ℕ) (hung : Bool) (t : Talk) (given : List ℕ) (g : Given) → TalkOk P c all hung t given → IsFed u c t piece g → TalkOk P c (all ++ piece) hung g.talk (given ++ g.bytes)
  fed_ok u c all piece hung t given g ok h = by t.closed refl h
    where
      by : (closed : Bool) → t.closed ≡ closed → IsFedWhere closed u c t piece g → TalkOk P c (all ++ piece) hung g.talk (given ++ g.bytes)
      by true at is = subst (λ (z : Given). TalkOk P c (all ++ piece) hung z.talk (given ++ z.bytes)) (sym is)
          (stays_ok c (all ++ piece) hung t given (record {
            taken = ok.taken;
            texts = ok.texts;
            front = front_more all piece ok.taken ok.front;
            live = λ e. let l = ok.live e in record { turns = l.turns; reads = reads_closed all piece l.turns t.reader l.reads (l.ends at); split = l.split; number = l.number; own = l.own; ends = l.ends };
            unhung = ok.unhung;
            idle = ok.idle;
          }))
      by false at is = subst (λ (z : Given). TalkOk P c (all ++ piece) hung z.talk (given ++ z.bytes)) (sym is.3)
          (let Q : Bool × Bool → Type 0 = λ z. TalkOk P c (all ++ piece) z.0 (go_where u c t' [] t'.outstanding z.1).talk (given ++ (go_where u c t' [] t'.outstanding z.1).bytes) in subst Q (λ i. (sym unhung i, sym at i)) (on t.outstanding refl))
        where
          unhung : hung ≡ false
          unhung = ok.unhung at

          live : Live c all t ok.taken
          live = ok.live unhung

          reads_by : (b : Bool) → t.reader.closed ≡ b → IsReadOn b t.reader piece is.0 is.1 → ReadsTurns (all ++ piece) (live.turns ++ is.0) is.1
          reads_by true e r =
              let old = reads_closed all piece live.turns t.reader live.reads e in
              subst (λ (z : List Turn × Reading). ReadsTurns (all ++ piece) z.0 z.1) (λ i. ((sym (append-nil live.turns) ∙ ap (λ ts. live.turns ++ ts) (sym r.0)) i, sym r.1 i)) old
          reads_by false e r = reads_on all piece live.turns is.0 t.reader is.1 live.reads e r

          reads : ReadsTurns (all ++ piece) (live.turns ++ is.0) is.1
          reads = reads_by t.reader.closed refl is.2

          t' : Talk
          t' = record t { reader = is.1; waiting = t.waiting ++ is.0 }

          split : live.turns ++ is.0 ≡ ok.taken ++ (pending t.outstanding ++ (t.waiting ++ is.0))
          split = ap (λ ts. ts ++ is.0) live.split ∙ (append_assoc ok.taken (pending t.outstanding ++ t.waiting) is.0 ∙ ap (λ ts. ok.taken ++ ts) (append_assoc (pending t.outstanding) t.waiting is.0))

          on : (o : Option Asked) → t.outstanding ≡ o → TalkOk P c (all ++ piece) false (go_where u c t' [] o false).talk (given ++ (go_where u c t' [] o false).bytes)
          on None e = let pend : length (pending t.outstanding) ≡ 0 = ap (λ (o : Option Asked). length (pending o)) e in let n = live.number in
              go_ok u c (all ++ piece) (live.turns ++ is.0) t' given [] ok.taken (t.waiting ++ is.0) reads
              (split ∙ ap (λ (o : Option Asked). ok.taken ++ (pending o ++ (t.waiting ++ is.0))) e) e at (omega (arith, n, pend))
              (subst (TextsBy P 1 ok.taken) (sym (append-nil given)) ok.texts)
          on (Some a) e = stays_ok c (all ++ piece) false t' given (record {
            taken = ok.taken;
            texts = ok.texts;
            front = front_more all piece ok.taken ok.front;
            live = λ _. record { turns = live.turns ++ is.0; reads = reads; split = split; number = live.number; own = live.own; ends = λ c. let clash : false ≡ true = sym at ∙ c in absurd (cc clash) };
            unhung = λ _. refl;
            idle = λ c. let clash : false ≡ true = sym at ∙ c in absurd (cc clash);
          })

  -- it is told to ask again
  pub again_ok : (u c : ℕ) (all : List ℕ) (hung : Bool) (t : Talk) (given : List ℕ) → TalkOk P c all hung t given → TalkOk P c all hung (on_again u c t).talk (given ++ (on_again u c t).bytes)
  again_ok u c all hung t given ok = by t.outstanding
    where
      by : (o : Option Asked) → TalkOk P c all hung (asked_again u c t o).talk (given ++ (asked_again u c t o).bytes)
      by None = stays_ok c all hung t given ok
      by (Some a) = stays_ok c all hung t given ok

  -- it hangs up
  pub hung_up_ok : (c : ℕ) (all : List ℕ) (hung : Bool) (t : Talk) (given : List ℕ) → TalkOk P c all hung t given → TalkOk P c all true (on_hangup t).talk (given ++ (on_hangup t).bytes)
  hung_up_ok c all hung t given ok = stays_ok c all true (on_hangup t).talk given (record {
    taken = ok.taken;
    texts = ok.texts;
    front = ok.front;
    live = λ e. absurd (cc e);
    unhung = λ e. absurd (cc e);
    idle = λ _. record { none_asked = refl; none_waits = refl };
  })
