-- Where in a run a request was accepted and collected: at the newest event, or before it.
use Rattle.std.proofs.Common.{◌≡◌, ℕ, Bool, true, false, ◌⊎◌, [], ◌∷◌, Ok, Err, Result, sym, refl, ap, ◌∙◌, inl, inr, arith}
use Rattle.model.specs.declared.requests.Report.{Report}
use Rattle.model.specs.declared.calls.Call.TheVariants.{Request, Collect}
use Rattle.model.specs.declared.refusals.Refusal.{Refusal}
use Rattle.model.specs.declared.calls.Answer.{Answer}
use Rattle.model.specs.declared.calls.Answer.TheVariants.{Ticket, Ticked, Completed, Collected, Stands}
use Rattle.model.specs.Runs.{Event, Trace}
use Rattle.model.specs.Promises.{Since, Told}
use Rattle.model.proofs.Stages.{no_true}

pub since_inv : {task a t : ℕ} {later : Trace} (e : Event) (h : Trace) → Since task a t later (e ∷ h) → ((later ≡ []) × (e.call ≡ Request task a) × (e.answer ≡ Ok (Ticket t))) ⊎ ((rest : Trace) × (later ≡ e ∷ rest) × Since task a t rest h)
since_inv e h (Since.here s) = inl (refl, refl, refl)
since_inv e h (Since.there {later = rest} _ x) = inr (rest, refl, x)

pub told_inv : {task t : ℕ} {r : Report} (e : Event) (h : Trace) → Told task t r (e ∷ h) → ((e.call ≡ Collect task t) × (e.answer ≡ Ok (Collected r))) ⊎ Told task t r h
told_inv e h (Told.here s) = inl (refl, refl)
told_inv e h (Told.there _ x) = inr x

pub none_since : {task a t : ℕ} {later : Trace} → Since task a t later [] → ⊥
none_since x = elim x [ ]

pub none_told : {task t : ℕ} {r : Report} → Told task t r [] → ⊥
none_told x = elim x [ ]

pub request_inj : (i a j c : ℕ) → Request i a ≡ Request j c → (i ≡ j) × (a ≡ c)
request_inj i a j c e = ((let z : i ≡ j = cc in z), (let z : a ≡ c = cc in z))

pub collect_inj : (i t j u : ℕ) → Collect i t ≡ Collect j u → (i ≡ j) × (t ≡ u)
collect_inj i t j u e = ((let z : i ≡ j = cc in z), (let z : t ≡ u = cc in z))

pub ticket_inj : (n t : ℕ) → ◌≡◌ {A = Result Answer Refusal} (Ok (Ticket n)) (Ok (Ticket t)) → n ≡ t
ticket_inj n t e = cc

pub report_inj : (r q : Report) → ◌≡◌ {A = Result Answer Refusal} (Ok (Collected r)) (Ok (Collected q)) → r ≡ q
report_inj r q e = cc

pub ticket_report : {A : Type 0} (n : ℕ) (r : Report) → ◌≡◌ {A = Result Answer Refusal} (Ok (Ticket n)) (Ok (Collected r)) → A
ticket_report n r e = grind arith

-- a call that neither gives nor collects a ticket
abbrev pub plain : Result Answer Refusal → Bool
plain (Ok (Ticket t)) = false
plain (Ok (Ticked o n)) = true
plain (Ok (Completed t)) = true
plain (Ok (Collected r)) = false
plain (Ok (Stands σ)) = true
plain (Err why) = true

pub plain_ticket : {A : Type 0} (a : Result Answer Refusal) (t : ℕ) → plain a ≡ true → a ≡ Ok (Ticket t) → A
plain_ticket a t p e = no_true (sym (ap plain e) ∙ p)

pub plain_report : {A : Type 0} (a : Result Answer Refusal) (r : Report) → plain a ≡ true → a ≡ Ok (Collected r) → A
plain_report a r p e = no_true (sym (ap plain e) ∙ p)
