-- The raw view. What `inner` holds says of loads and stores what the code does, place by place.
pub mod Store
pub mod Inner
