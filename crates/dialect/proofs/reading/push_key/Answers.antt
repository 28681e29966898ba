use Rattle.std.proofs.Common.{◌≡◌, ℕ, ◌+◌, List, [], ◌∷◌, ◌++◌, length, true, false, sym, ap, ◌∙◌, subst, rules}
use Rattle.std.proofs.lemmas.List.{append_assoc}
use Rattle.std.specs.declared.alloc.Global.{Global}
use Rattle.std.specs.declared.vec.Vec.{Vec}
use Rattle.proto.specs.declared.command.Command.{Command}
use Rattle.dialect.specs.Reading.{piece_turns, has_room, IsPiece, read_command}
use Rattle.dialect.specs.declared.turn.Show.TheVariants as show
use Rattle.dialect.specs.declared.turn.Turn.{Turn}
use Rattle.dialect.specs.declared.turn.Turn.TheVariants.{Ask}
use Rattle.dialect.proofs.PieceLemmas.{longer_piece, goes_on, begins}
use Rattle.dialect.proofs.reading.push_key.Goals as goal

pub returns-then-has_room-clause-piece : goal.returns-then-has_room-clause-piece
returns-then-has_room-clause-piece c =
    let count : c.len.result ≡ length c.args.keys.now.items = search rules in
    let room : has_room (length c.args.keys.now.items) (c.args.bytes + length c.args.word.now + 1) ≡ true =
    ap (λ (n : ℕ). has_room n (c.args.bytes + length c.args.word.now + 1)) (sym count) ∙ sym c.has_room.ensures ∙ c.if-has_room.true in
    let now : c.push.new.self.items ≡ c.args.keys.now.items ++ c.args.word.now ∷ [] =
    c.in_ok-push.ensures.items ∙ ap (λ (k : List ℕ). c.args.keys.now.items ++ k ∷ []) c.in_ok-from_slice.ensures in
    subst (λ (ks : List (List ℕ)). IsPiece c.args.reading ks (c.args.bytes + length c.args.word.now + 1)) (sym now)
    (longer_piece c.args.reading c.args.keys.now.items c.args.bytes c.requires.piece c.args.word.now room)

pub returns-then-has_room-clause-turns : goal.returns-then-has_room-clause-turns
returns-then-has_room-clause-turns c =
    let count : c.len.result ≡ length c.args.keys.now.items = search rules in
    let room : has_room (length c.args.keys.now.items) (c.args.bytes + length c.args.word.now + 1) ≡ true =
    ap (λ (n : ℕ). has_room n (c.args.bytes + length c.args.word.now + 1)) (sym count) ∙ sym c.has_room.ensures ∙ c.if-has_room.true in
    let now : c.push.new.self.items ≡ c.args.keys.now.items ++ c.args.word.now ∷ [] =
    c.in_ok-push.ensures.items ∙ ap (λ (k : List ℕ). c.args.keys.now.items ++ k ∷ []) c.in_ok-from_slice.ensures in
    λ more. ap (λ (ts : List Turn). c.args.turns.now.items ++ ts)
    (ap (λ (ks : List (List ℕ)). piece_turns c.args.reading ks more) now
    ∙ sym (goes_on c.args.reading c.args.keys.now.items c.args.bytes c.requires.piece c.args.word.now more room))

pub returns-clause-turns : goal.returns-clause-turns
returns-clause-turns c =
    let count : c.len.result ≡ length c.args.keys.now.items = search rules in
    let room : has_room (length c.args.keys.now.items) (c.args.bytes + length c.args.word.now + 1) ≡ false =
    ap (λ (n : ℕ). has_room n (c.args.bytes + length c.args.word.now + 1)) (sym count) ∙ sym c.has_room.ensures ∙ c.if-has_room.false in
    let command : c.read_command.result ≡ read_command c.args.reading c.args.keys.now.items =
    c.read_command.ensures ∙ ap (λ (ks : List (List ℕ)). read_command c.args.reading ks) (c.new.ensures ∙ ap (λ (v : Vec (List ℕ) Global). v.items) c.replace-piece.ensures.value) in
    let first : c.replace-piece.new.dest.items ≡ c.args.word.now ∷ [] = ap (λ (v : Vec (List ℕ) Global). v.items) c.replace-piece.ensures.after ∙ c.in_ok-first.ensures.0 in
    λ more.
    ap (λ (ts : List Turn). ts ++ piece_turns c.args.reading c.replace-piece.new.dest.items more) c.in_ok-push-2.ensures.items
    ∙ append_assoc c.args.turns.now.items (Ask c.read_command.result show.Items ∷ []) (piece_turns c.args.reading c.replace-piece.new.dest.items more)
    ∙ ap (λ (ts : List Turn). c.args.turns.now.items ++ ts)
    (ap (λ (d : Command). Ask d show.Items ∷ piece_turns c.args.reading c.replace-piece.new.dest.items more) command
    ∙ ap (λ (ks : List (List ℕ)). Ask (read_command c.args.reading c.args.keys.now.items) show.Items ∷ piece_turns c.args.reading ks more) first
    ∙ sym (begins c.args.reading c.args.keys.now.items c.args.bytes c.requires.piece c.args.word.now more room))
