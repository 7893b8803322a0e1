-- A body that is read on, after the head at the front of the input.
use Rattle.std.proofs.Common.{◌≡◌, ◌≢◌, ℕ, ◌+◌, ◌-◌, ◌*◌, ◌≤◌, List, [], ◌++◌, length, take, drop, sym, ap}
use Rattle.std.proofs.Common.{◌∙◌, subst, arith, append_assoc, append-nil, length-append, length-drop}
use Rattle.std.proofs.Common.{length-take}
use Rattle.std.proofs.Math.Seq.{drop-append-add, drop-append_seam}
use Rattle.std.proofs.lemmas.List.{take_all, drop_all, drop-drop, take-append-drop, take-append-le}
use Rattle.httparse.specs.Spans.{span_bytes, IsWithin}
use Rattle.httparse.specs.declared.spans.Span.{Span}
use Rattle.warp_request.specs.declared.body_reader.BodyReader.{BodyReader}
use Rattle.warp_request.specs.declared.verdict.HeadInfo.{HeadInfo}
use Rattle.warp_request.specs.declared.verdict.Next.TheVariants.{Head}
use Rattle.warp_request.specs.Body.{BodyVerdict, body_of}
use Rattle.warp_request.specs.Body as body
use Rattle.warp_request.specs.BodyReader.{Represents as Reads, state_of, state_verdict}
use Rattle.warp_request.specs.declared.body_reader.BodyState.{BodyState}
use Rattle.warp_request.specs.declared.body_reader.BodyState.TheVariants as States
use Rattle.warp_request.specs.declared.verdict.Framing.{Framing}
use Rattle.warp_request.specs.Next.{next_of}
use Rattle.warp_request.specs.Shown.{LiesIn}
use Rattle.warp_request.specs.Verdict.{Asked, asked}
use Rattle.warp_request.specs.BodyGrowthLaws.{body_stays}
use Rattle.conn_loop.specs.Heads.{asked_in}
use Rattle.conn_loop.specs.Phases.{HasHead, IsRefusal}
use Rattle.conn_loop.specs.Stages.{HasRoom, IsReading, IsReady}
use Rattle.conn_loop.specs.FirstRequest.{first_request, first_by_body, refused}
use Rattle.warp_request.specs.ListLaws.{slice_range-append}
use Rattle.conn_loop.proofs.AnswerLemmas.{first_request_asked}
use Rattle.conn_loop.proofs.BoundLemmas.{most_more}
use Rattle.conn_loop.proofs.StatusLemmas.{body_status}

-- ---- heads

span_front : (s : List ℕ) (len : ℕ) (span : Span) → IsWithin len span → len ≤ length s
    → span_bytes s span ≡ span_bytes (take len s) span
span_front s len span is fits =
    ap (λ (x : List ℕ). span_bytes x span) (sym (take-append-drop len s))
    ∙ slice_range-append (take len s) (drop len s) span.start span.end is.0
    (omega (arith, is.1, fits, length-take len s))

span_same : (s t : List ℕ) (len : ℕ) (span : Span) → IsWithin len span → len ≤ length s → len ≤ length t
    → take len s ≡ take len t → span_bytes s span ≡ span_bytes t span
span_same s t len span is one two same =
    span_front s len span is one ∙ ap (λ (v : List ℕ). span_bytes v span) same
    ∙ sym (span_front t len span is two)

-- what a head asks for is in its own bytes
pub asked_same : (s t : List ℕ) (head : HeadInfo) → LiesIn s (Head head) → head.head_len ≤ length t
    → take head.head_len s ≡ take head.head_len t → asked_in s head ≡ asked_in t head
asked_same s t head x fits same =
    let method = span_same s t head.head_len head.method x.0 x.2 fits same in
    let target = span_same s t head.head_len head.target x.1 x.2 fits same in
    λ i. record {
      method = method i;
      target = target i;
      minor = head.minor;
      len = head.head_len;
      framing = head.framing;
      keeps = head.keeps;
      interim = head.interim;
    }

-- and stays so with more bytes behind
pub asked_grown : (input piece : List ℕ) (head : HeadInfo) → HasHead input head
    → asked_in (input ++ piece) head ≡ asked_in input head
asked_grown input piece head x =
    sym (asked_same input (input ++ piece) head x.lies (omega (arith, x.lies.2, length-append input piece))
    (sym (take-append-le head.head_len input piece x.lies.2)))

-- the front of a list, and nothing after it
take_front : (n : ℕ) (s : List ℕ) → take n (take n s) ≡ take n s
take_front n s = take_all n (take n s) (omega (arith, length-take n s))

drop_front : (n : ℕ) (s : List ℕ) → drop n (take n s) ≡ []
drop_front n s = drop_all n (take n s) (omega (arith, length-take n s))

pub head_kept : (s : List ℕ) (head : HeadInfo) → HasHead s head → HasHead (take head.head_len s) head
head_kept s head x = record {
  lies = (x.lies.0, x.lies.1, omega (arith, x.lies.2, length-take head.head_len s));
  short = x.short;
}

pub head_front : (s : List ℕ) (head : HeadInfo) → HasHead s head
    → asked_in s head ≡ asked_in (take head.head_len s) head
head_front s head x =
    asked_same s (take head.head_len s) head x.lies (omega (arith, x.lies.2, length-take head.head_len s))
    (sym (take_front head.head_len s))

-- ---- what the bytes ahead are

module _ (a : Asked) (input fed ahead : List ℕ) (fits : a.len ≤ length input)
    (parts : ahead ≡ take a.len input ++ (fed ++ drop a.len input))
    (asks : (t : List ℕ) → next_of (ahead ++ t) ≡ asked a) where
  -- what was fed and what is left of the input follow the head
  behind_head : (t : List ℕ) → drop a.len (ahead ++ t) ≡ (fed ++ drop a.len input) ++ t
  behind_head t =
      let size : length (take a.len input) ≡ a.len = omega (arith, length-take a.len input, fits) in
      ap (λ (v : List ℕ). drop a.len (v ++ t)) parts
      ∙ ap (λ (v : List ℕ). drop a.len v) (append_assoc (take a.len input) (fed ++ drop a.len input) t)
      ∙ ap (λ (n : ℕ). drop n (take a.len input ++ ((fed ++ drop a.len input) ++ t))) (sym size)
      ∙ drop-append_seam (take a.len input) ((fed ++ drop a.len input) ++ t)

  -- a body that is settled there settles the request
  settled_first_request : (v : BodyVerdict) → body_of a.framing (fed ++ drop a.len input) ≡ v
      → v ≢ body.more → (t : List ℕ) → first_request (ahead ++ t) ≡ first_by_body a v
  settled_first_request v says settled t =
      first_request_asked (ahead ++ t) a v (asks t)
      (ap (λ (u : List ℕ). body_of a.framing u) (behind_head t)
      ∙ body_stays a.framing (fed ++ drop a.len input) t v says settled)

  pub refused_ahead : (code : ℕ) → body_of a.framing (fed ++ drop a.len input) ≡ body.refused code
      → (t : List ℕ) → first_request (ahead ++ t) ≡ refused code
  refused_ahead code says t = settled_first_request (body.refused code) says (λ e. cc) t

  pub ready_ahead : (used : ℕ) → used ≤ length (drop a.len input)
      → body_of a.framing (fed ++ drop a.len input) ≡ body.whole (length fed + used)
      → IsReady a used input ahead
  ready_ahead used within says = record {
    len = a.len + (length fed + used);
    inside = omega (arith, within, fits, length-drop a.len input);
    fits = omega (
      arith,
      within,
      fits,
      ap (λ (v : List ℕ). length v) parts,
      length-append (take a.len input) (fed ++ drop a.len input),
      length-append fed (drop a.len input),
      length-take a.len input,
    );
    rest = sym (drop-drop (length fed + used) a.len ahead)
        ∙ ap (λ (v : List ℕ). drop (length fed + used) v)
        (ap (λ (v : List ℕ). drop a.len v) (sym (append-nil ahead))
        ∙ behind_head [] ∙ append-nil (fed ++ drop a.len input))
        ∙ drop-append-add fed (drop a.len input) used ∙ drop-drop used a.len input;
    is_whole = λ t. settled_first_request (body.whole (length fed + used)) says (λ e. cc) t;
  }

  pub reading_ahead : (reader : BodyReader) (used : ℕ) → used ≡ length (drop a.len input)
      → Reads reader a.framing (fed ++ take used (drop a.len input))
      → body_of a.framing (fed ++ drop a.len input) ≡ body.more → IsReading a reader (take a.len input) ahead
  reading_ahead reader used all stands says =
      let piece : take used (drop a.len input) ≡ drop a.len input =
      take_all used (drop a.len input) (omega (arith, all)) in
      record {
        fed = fed ++ drop a.len input;
        parts = parts ∙ ap (λ (v : List ℕ). v ++ (fed ++ drop a.len input)) (sym (take_front a.len input))
            ∙ ap (λ (v : List ℕ). take a.len (take a.len input) ++ v)
            (sym (append-nil (fed ++ drop a.len input))
            ∙ ap (λ (v : List ℕ). (fed ++ drop a.len input) ++ v) (sym (drop_front a.len input)));
        inside = omega (arith, fits, length-take a.len input);
        stands = subst (λ (v : List ℕ). Reads reader a.framing (fed ++ v)) piece stands;
        goes_on = says;
        asks = asks;
      }

-- ---- what a reader did with the rest of the input

pub record Feeds (piece : List ℕ) (old new : BodyReader) (used : ℕ) (state : BodyState) : Type 0 where
  pub within : used ≤ length piece
  pub says : (framing : Framing) (fed : List ℕ) → Reads old framing fed
      → body_of framing (fed ++ piece) ≡ state_verdict state (length fed + used)
  pub stands : (framing : Framing) (fed : List ℕ) → Reads old framing fed
      → Reads new framing (fed ++ take used piece)
  pub all : state ≡ States.More → used ≡ length piece

rest_is : (s input : List ℕ) (n : ℕ) → s ≡ input → take (length s - n) (drop n s) ≡ drop n input
rest_is s input n is =
    take_all (length s - n) (drop n s) (omega (arith, length-drop n s)) ∙ ap (λ (v : List ℕ). drop n v) is

pub feeds_of : (s input : List ℕ) (n : ℕ) (old new : BodyReader) (used : ℕ) (state : BodyState) → s ≡ input
    → used ≤ length (take (length s - n) (drop n s))
    → ((framing : Framing) (fed : List ℕ) → Reads old framing fed
    → body_of framing (fed ++ take (length s - n) (drop n s)) ≡ state_verdict state (length fed + used))
    → ((framing : Framing) (fed : List ℕ) → Reads old framing fed
    → Reads new framing (fed ++ take used (take (length s - n) (drop n s))))
    → state ≡ state_of new → (state_of new ≡ States.More → used ≡ length (take (length s - n) (drop n s)))
    → Feeds (drop n input) old new used state
feeds_of s input n old new used state is within says stands shows all =
    subst (λ (piece : List ℕ). Feeds piece old new used state) (rest_is s input n is)
    (record { within = within; says = says; stands = stands; all = λ e. all (sym shows ∙ e) })

says_at : (framing : Framing) (s : List ℕ) (state was : BodyState) (n : ℕ) → state ≡ was
    → body_of framing s ≡ state_verdict state n → body_of framing s ≡ state_verdict was n
says_at framing s state was n is says = says ∙ ap (λ (v : BodyState). state_verdict v n) is

module _ (input : List ℕ) (head : HeadInfo) (old new : BodyReader) (used room : ℕ) (state : BodyState)
    (x : HasHead input head) (y : HasRoom old head.framing room)
    (feeds : Feeds (drop head.head_len input) old new used state) where
  more_says : state ≡ States.More → body_of head.framing (y.fed ++ drop head.head_len input) ≡ body.more
  more_says is =
      says_at head.framing (y.fed ++ drop head.head_len input) state States.More (length y.fed + used) is
      (feeds.says head.framing y.fed y.stands)

  pub more_fits : state ≡ States.More → used ≤ room
  more_fits is =
      omega (
        arith,
        y.counted,
        most_more head.framing (y.fed ++ drop head.head_len input) (more_says is),
        length-append y.fed (drop head.head_len input),
        feeds.all is,
      )

  pub more_kept : (kept : List ℕ) → kept ≡ take head.head_len input → state ≡ States.More
      → HasHead kept head × HasRoom new head.framing (room - used)
  more_kept kept same is = (
    subst (λ (v : List ℕ). HasHead v head) (sym same) (head_kept input head x),
    record {
      fed = y.fed ++ take used (drop head.head_len input);
      stands = feeds.stands head.framing y.fed y.stands;
      counted = omega (
        arith,
        y.counted,
        more_fits is,
        length-append y.fed (take used (drop head.head_len input)),
        length-take used (drop head.head_len input),
        feeds.all is,
      );
    },
  )

  pub more_nearer : (kept : List ℕ) → kept ≡ take head.head_len input → state ≡ States.More
      → 2 * (room - used) + (1 - length (drop head.head_len kept))
      ≤ 2 * room + (1 - length (drop head.head_len input))
  more_nearer kept same is =
      let none : length (drop head.head_len kept) ≡ 0 = ap (λ (v : List ℕ).
      length (drop head.head_len v)) same ∙ ap (λ (v : List ℕ). length v) (drop_front head.head_len input) in
      omega (arith, none, more_fits is, feeds.all is)

  pub more_up : (kept : List ℕ) → kept ≡ take head.head_len input → length kept ≡ head.head_len
  more_up kept same =
      ap (λ (v : List ℕ). length v) same ∙ omega (arith, length-take head.head_len input, x.lies.2)

  pub more_lies : (kept fed ahead : List ℕ) → kept ≡ take head.head_len input → state ≡ States.More
      → Reads old head.framing fed
      → ahead ≡ take head.head_len input ++ (fed ++ drop head.head_len input)
      → ((t : List ℕ) → next_of (ahead ++ t) ≡ asked (asked_in input head))
      → IsReading (asked_in kept head) new kept ahead
  more_lies kept fed ahead same is stands parts asks =
      subst (λ (v : List ℕ). IsReading (asked_in v head) new v ahead) (sym same)
      (subst (λ (a : Asked). IsReading a new (take head.head_len input) ahead) (head_front input head x)
      (reading_ahead (asked_in input head) input fed ahead x.lies.2 parts asks new used
      (feeds.all is) (feeds.stands head.framing fed stands)
      (says_at head.framing (fed ++ drop head.head_len input) state States.More (length fed + used) is
      (feeds.says head.framing fed stands))))

  pub whole_lies : (fed ahead : List ℕ) → state ≡ States.Whole → Reads old head.framing fed
      → ahead ≡ take head.head_len input ++ (fed ++ drop head.head_len input)
      → ((t : List ℕ) → next_of (ahead ++ t) ≡ asked (asked_in input head))
      → IsReady (asked_in input head) used input ahead
  whole_lies fed ahead is stands parts asks =
      ready_ahead (asked_in input head) input fed ahead x.lies.2 parts asks used feeds.within
      (says_at head.framing (fed ++ drop head.head_len input) state States.Whole (length fed + used) is
      (feeds.says head.framing fed stands))

  pub refused_lies : (code : ℕ) (fed ahead : List ℕ) → state ≡ States.Refuse code → Reads old head.framing fed
      → ahead ≡ take head.head_len input ++ (fed ++ drop head.head_len input)
      → ((t : List ℕ) → next_of (ahead ++ t) ≡ asked (asked_in input head))
      → (t : List ℕ) → first_request (ahead ++ t) ≡ refused code
  refused_lies code fed ahead is stands parts asks t =
      refused_ahead (asked_in input head) input fed ahead x.lies.2 parts asks code
      (says_at head.framing (fed ++ drop head.head_len input) state (States.Refuse code)
      (length fed + used) is (feeds.says head.framing fed stands)) t

  pub refused_kept : (code : ℕ) → state ≡ States.Refuse code → IsRefusal code
  refused_kept code is =
      body_status head.framing (y.fed ++ drop head.head_len input) code
      (says_at head.framing (y.fed ++ drop head.head_len input) state (States.Refuse code)
      (length y.fed + used) is (feeds.says head.framing y.fed y.stands))
