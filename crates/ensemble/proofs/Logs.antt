-- Answers that come behind others.
use Rattle.std.proofs.Common.{◌≡◌, ℕ, List, [], ◌∷◌, ◌++◌, map, Some, refl, sym, ap, ◌∙◌, append_assoc}
use Rattle.std.proofs.lemmas.List.{append-nil}
use Rattle.proto.specs.declared.reply.Reply as replies
use Rattle.ensemble.specs.declared.answer.Answer.{Answer}
use Rattle.ensemble.proofs.Moments.{Order}
use Rattle.ensemble.specs.Ensemble.{EnsembleView, KeepsLogs, Answers, answer_entry, answer_log, order_entry, order_log}

-- what keeps the logs twice keeps them
pub keeps_none : (e : EnsembleView) → KeepsLogs e e
keeps_none e = record { asked = refl; found = refl; answered = refl; order = refl }

pub keeps_more : (a b c : EnsembleView) → KeepsLogs a b → KeepsLogs b c → KeepsLogs a c
keeps_more a b c f g = record {
  asked = g.asked ∙ f.asked;
  found = g.found ∙ f.found;
  answered = g.answered ∙ f.answered;
  order = g.order ∙ f.order;
}

abbrev Entries : Type 0
Entries = List ((ℕ × ℕ) × replies.Reply)

pub none_came : (log log_now : Entries) (order order_now : Order) (answers answers_now : List Answer) → log_now ≡ log → order_now ≡ order → answers_now ≡ answers → Answers log order answers log_now order_now answers_now
none_came log log_now order order_now answers answers_now l o a = record { added = []; after = a ∙ sym (append-nil answers); logged = l ∙ sym (append-nil log); ordered = o ∙ sym (append-nil order) }

pub one_came : (log log_now : Entries) (order order_now : Order) (answers answers_now : List Answer) (a : Answer) → log_now ≡ log ++ answer_log (Some a) → order_now ≡ order ++ order_log (Some a) → answers_now ≡ answers ++ a ∷ [] → Answers log order answers log_now order_now answers_now
one_came log log_now order order_now answers answers_now a l o is = record { added = a ∷ []; after = is; logged = l; ordered = o }

-- what is logged of one list behind another
both : {X : Type 0} (of : Answer → X) (xs ys : List Answer) → map of (xs ++ ys) ≡ map of xs ++ map of ys
both of [] ys = refl
both {X} of (u ∷ xs) ys = ap (λ (es : List X). of u ∷ es) (both of xs ys)

log_both : {X : Type 0} (of : Answer → X) (a b c : List X) (xs ys : List Answer) → b ≡ a ++ map of xs → c ≡ b ++ map of ys → c ≡ a ++ map of (xs ++ ys)
log_both {X} of a b c xs ys p q = q ∙ (ap (λ (es : List X). es ++ map of ys) p ∙ (append_assoc a (map of xs) (map of ys) ∙ ap (λ (es : List X). a ++ es) (sym (both of xs ys))))

pub more_came : (a b c : Entries) (o p q : Order) (x y z : List Answer) → Answers a o x b p y → Answers b p y c q z → Answers a o x c q z
more_came a b c o p q x y z f g = record {
  added = f.added ++ g.added;
  after = g.after ∙ (ap (λ (xs : List Answer). xs ++ g.added) f.after ∙ append_assoc x f.added g.added);
  logged = log_both answer_entry a b c f.added g.added f.logged g.logged;
  ordered = log_both order_entry o p q f.added g.added f.ordered g.ordered;
}

-- none came, and then some
pub then_came : (a b c : Entries) (o p q : Order) (x y z : List Answer) → Answers a o x b p y → c ≡ b → q ≡ p → z ≡ y → Answers a o x c q z
then_came a b c o p q x y z f l r is = more_came a b c o p q x y z f (none_came b c p q y z l r is)
