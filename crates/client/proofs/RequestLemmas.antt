-- A request is identified by its fields.
use Rattle.std.proofs.Common.{◌≡◌, ℕ, suc, zero, ◌+◌, ◌≤◌, refl, subst, ap, sym, ◌∙◌, arith}
use Rattle.std.proofs.Math.Bridge.{le_prop}
use Rattle.proto.specs.declared.command.Command.{Command}
use Rattle.sessions.specs.declared.request.Request.{Request}
use Rattle.client.specs.RequestProofs.{client_number}
use Rattle.client.specs.Talk.{next_request}

pub same_request : (a b : Request) → a.client ≡ b.client → a.number ≡ b.number → a.command ≡ b.command → a ≡ b
same_request a b client number command =
    let P : ℕ × ℕ × Command → Type 0 = λ z. (p : 1 ≤ z.0) (q : 1 ≤ z.1) → a ≡ record { client = z.0; number = z.1; command = z.2; is_client = p; is_numbered = q } in
    subst P (λ i. (client i, number i, command i))
    (λ p q i. record { client = a.client; number = a.number; command = a.command; is_client = le_prop a.is_client p i; is_numbered = le_prop a.is_numbered q i })
    b.is_client b.is_numbered

-- clients are numbered from 1
pub number_of_client : (c : ℕ) → 1 ≤ c → client_number c ≡ c
number_of_client zero h = absurd (omega (arith, h))
number_of_client (suc k) h = refl

-- a request that is made as the next one
pub made_next : (r : Request) (c last : ℕ) (command : Command) → 1 ≤ c → r.client ≡ c → r.number ≡ last + 1 → r.command ≡ command → r ≡ next_request c last command
made_next r c last command h client number asks = same_request r (next_request c last command) (client ∙ sym (number_of_client c h)) number asks
