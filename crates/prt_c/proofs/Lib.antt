mod Answered
mod Apart
mod AsBox
mod AsFibBox
mod AsPolicyBox
mod FibNumbers
